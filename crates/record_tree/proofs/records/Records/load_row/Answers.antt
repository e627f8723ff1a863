use Rattle.std.proofs.Common.{None}
use Rattle.std.proofs.lemmas.Result.{err_from_is_err_and}
use Rattle.hal_base.specs.declared.outcome.PageFault.TheVariants as page
use Rattle.record_tree.specs.declared.room.Room.TheVariants.{Past}
use Rattle.record_tree.specs.Changing.{loading_need}
use Rattle.record_tree.proofs.Opening.{one_fault}
use Rattle.record_tree.proofs.Frames.{side_none, side_fault}
use Rattle.record_tree.proofs.Inserting.{Laws, comes_last, last_place_for, loads}
use Rattle.record_tree.proofs.records.Records.load_row.Goals as goal

pub add_row-requires-clause-place : goal.add_row-requires-clause-place
add_row-requires-clause-place g c =
    last_place_for c.args.self.now (g.H.Shelf.seen c.args.shelf.now) c.args.place c.args.code None (Past c.args.fbff c.args.fspf) c.args.content.now c.in_ok-content.content c.in_ok-content.ensures c.requires.place

pub returns-in_err-content-clause-leaves : goal.returns-in_err-content-clause-leaves
returns-in_err-content-clause-leaves g c =
    let p = err_from_is_err_and c.from_residual.result c.from_residual.ensures.1 in
    side_none (loading_need c.args.fbff c.args.code) c.args.self.now (g.H.Shelf.seen c.args.shelf.now) (g.met.H.Shelf.steady_none c.args.shelf.now) c.requires.live (λ is. let first = p.1 in let second = p.2 in cc)

pub returns-in_err-at-clause-leaves : goal.returns-in_err-at-clause-leaves
returns-in_err-at-clause-leaves g c =
    let p = err_from_is_err_and c.from_residual-in_err-at.result c.from_residual-in_err-at.ensures.1 in
    let q = one_fault c.add_row.result c.from_residual-in_err-at.result _ p.0 page.Failed c.in_err-at.was p.1 p.2 in
    side_fault c.add_row.ensures.leaves q.0 q.1

pub returns-clause-loaded : goal.returns-clause-loaded
returns-clause-loaded g c =
    let laws : Laws = record { kept = c.schemas_are_kept.ensures; places = c.child_places.ensures; cells = c.sides_list_their_cells.ensures; listed = c.new_segments_are_listed.ensures } in
    let records = c.args.self.now in
    let now = c.add_row.new.self in
    let at = c.in_ok-at.at in
    let old = g.H.Shelf.seen c.args.shelf.now in
    let later = g.H.Shelf.seen c.add_row.new.shelf in
    loads c.args.fbff c.args.fspf records now c.args.place c.args.code at c.args.content.now c.home_name.result old later c.home_name.ensures
    (comes_last laws c.first_children_are_inserted.ensures c.new_twins_stand_behind_spans.ensures c.args.fbff c.args.fspf records now c.args.place c.args.code None c.args.content.now c.in_ok-content.content at old later c.in_ok-content.ensures
    c.requires.place (record { comes = c.in_ok-at.ensures.comes; room = c.in_ok-at.ensures.room }))
