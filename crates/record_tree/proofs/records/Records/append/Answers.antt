use Rattle.std.proofs.Common.{Some}
use Rattle.std.proofs.lemmas.Result.{err_from_is_err_and}
use Rattle.record_tree.specs.declared.room.Room.TheVariants.{Past}
use Rattle.record_tree.specs.Changing.{ComesLast, loading_need}
use Rattle.record_tree.specs.Placing.{unplaced}
use Rattle.record_tree.specs.Storing.{ComesAt, RowHasRoom}
use Rattle.record_tree.proofs.Frames.{side_none, ok_both}
use Rattle.record_tree.proofs.Inserting.{Laws, comes_last, last_place_for}
use Rattle.record_tree.proofs.records.Records.append.Goals as goal

pub add_row-requires-clause-place : goal.add_row-requires-clause-place
add_row-requires-clause-place g c =
    let row = c.args.row.now in
    last_place_for c.args.self.now (g.H.Shelf.seen c.args.shelf.now) c.args.place row.code (Some row.name) (Past c.args.fbff c.args.fspf) row.content c.in_ok-content.content c.in_ok-content.ensures c.requires.place

pub returns-in_err-content-clause-leaves : goal.returns-in_err-content-clause-leaves
returns-in_err-content-clause-leaves g c =
    let p = err_from_is_err_and c.from_residual.result c.from_residual.ensures.1 in
    side_none (loading_need c.args.fbff c.args.row.now.code) c.args.self.now (g.H.Shelf.seen c.args.shelf.now) (g.met.H.Shelf.steady_none c.args.shelf.now) c.requires.live (λ is. let first = p.1 in let second = p.2 in cc)

pub returns-clause-appended : goal.returns-clause-appended
returns-clause-appended g c =
    let laws : Laws = record { kept = c.schemas_are_kept.ensures; places = c.child_places.ensures; cells = c.sides_list_their_cells.ensures; listed = c.new_segments_are_listed.ensures } in
    let records = c.args.self.now in
    let now = c.add_row.new.self in
    let row = c.args.row.now in
    let room = Past c.args.fbff c.args.fspf in
    let old = g.H.Shelf.seen c.args.shelf.now in
    let later = g.H.Shelf.seen c.add_row.new.shelf in
    ok_both (ComesAt records now c.args.place (record { code = row.code; name = Some row.name; content = c.in_ok-content.content; room = room }) old later) (RowHasRoom room records (unplaced row.code c.in_ok-content.content) old later)
    (ComesLast c.args.fbff c.args.fspf records now c.args.place (Some row.name) (unplaced row.code row.content) old later) c.add_row.result c.add_row.ensures.comes c.add_row.ensures.room (λ at comes has.
    comes_last laws c.first_children_are_inserted.ensures c.new_twins_stand_behind_spans.ensures c.args.fbff c.args.fspf records now c.args.place row.code (Some row.name) row.content c.in_ok-content.content at old later c.in_ok-content.ensures c.requires.place (record { comes = comes; room = has }))
