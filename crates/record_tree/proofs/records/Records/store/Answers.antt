use Rattle.std.proofs.Common.{◌≡◌, ℕ, length, sym, ap, subst, arith}
use Rattle.std.specs.Prelude.{unwrap_or}
use Rattle.std.proofs.lemmas.Result.{err_from_is_err_and}
use Rattle.segment_blocks.specs.declared.tile.Cell.{Cell}
use Rattle.free_space.specs.Map.{Alters}
use Rattle.free_space.specs.SideCalls.{Turns, set_of}
use Rattle.free_space.specs.Store.{IsTyped}
use Rattle.keyed_sets.specs.declared.set.KeyedSet.{KeyedSet}
use Rattle.record_tree.specs.Changing.{home_name}
use Rattle.record_tree.specs.Storing.{StoresCell, RowHasRoom, room_need, nameless, segment_for, set_name, row_cell, named_cell}
use Rattle.record_tree.proofs.Frames.{changes_at, side_none, side_then, side_more, ok_from, ok_both}
use Rattle.record_tree.proofs.Rooms.{row_room, room_behind}
use Rattle.record_tree.proofs.Storing.{typed_cell, short_content, stored_within, name_stored}
use Rattle.record_tree.proofs.records.Records.store.Goals as goal

pub hold-requires-clause-typed : goal.hold-requires-clause-typed
hold-requires-clause-typed g c =
    let records = c.args.self.now in
    let new = c.args.new in
    let is : c.in_ok-cell.cell ≡ row_cell records.schema (record (segment_for new) { name = unwrap_or new.name nameless }) c.args.twin = c.in_ok-cell.ensures in
    subst (λ (x : Cell). IsTyped records.cells.shapes x) (sym is)
    (typed_cell c.child_places.ensures records.schema records.cells.shapes new.code new.content (unwrap_or new.name nameless) c.args.twin c.requires.stands.of.shapes c.requires.fits)

pub hold-requires-clause-content : goal.hold-requires-clause-content
hold-requires-clause-content g c =
    let records = c.args.self.now in
    let new = c.args.new in
    let is : c.in_ok-cell.cell ≡ row_cell records.schema (record (segment_for new) { name = unwrap_or new.name nameless }) c.args.twin = c.in_ok-cell.ensures in
    let long = ap (λ (x : Cell). length x.content) is in
    let short = short_content c.schemas_are_kept.ensures records.schema new.code new.content c.requires.fits in
    omega (arith, long, short)

pub returns-in_err-cell-clause-leaves : goal.returns-in_err-cell-clause-leaves
returns-in_err-cell-clause-leaves g c =
    let p = err_from_is_err_and c.from_residual.result c.from_residual.ensures.1 in
    side_none (room_need c.args.new.room) c.args.self.now (g.H.Shelf.seen c.args.shelf.now) (g.met.H.Shelf.steady_none c.args.shelf.now) c.requires.live (λ is. let first = p.1 in let second = p.2 in cc)

pub returns-clause-stored : goal.returns-clause-stored
returns-clause-stored g c =
    let records = c.args.self.now in
    let mid = c.hold.new.self in
    let new = c.args.new in
    let at = c.in_ok-at.at in
    let old = g.H.Shelf.seen c.args.shelf.now in
    let one = g.H.Shelf.seen c.hold.new.shelf in
    let two = g.H.Shelf.seen c.name_by_home.new.shelf in
    let is : c.in_ok-cell.cell ≡ row_cell records.schema (record (segment_for new) { name = unwrap_or new.name nameless }) c.args.twin = c.in_ok-cell.ensures in
    ok_both (λ to. to ≡ at) (λ _. Turns mid.cells mid.cells one two (Alters at (set_name (home_name mid at)))) (λ to. StoresCell records mid (named_cell records new c.args.twin to) old two to) c.name_by_home.result
    c.name_by_home.ensures.same c.name_by_home.ensures.named (λ to same turns.
    subst (λ (n : ℕ). StoresCell records mid (named_cell records new c.args.twin n) old two n) (sym same)
    (name_stored records mid new c.args.twin at c.in_ok-cell.cell old one two (g.met.H.Shelf.told_alike c.hold.new.shelf) (g.met.H.Shelf.told_alike c.name_by_home.new.shelf) c.requires.stands is c.in-None.is c.in_ok-at.ensures.stored
    c.name_by_home.ensures.leaves c.name_by_home.ensures.stands turns))

pub returns-clause-room : goal.returns-clause-room
returns-clause-room g c =
    let records = c.args.self.now in
    let new = c.args.new in
    let at = c.in_ok-at.at in
    let old = g.H.Shelf.seen c.args.shelf.now in
    let one = g.H.Shelf.seen c.hold.new.shelf in
    let two = g.H.Shelf.seen c.name_by_home.new.shelf in
    let cell = c.in_ok-cell.cell in
    ok_from at (RowHasRoom new.room records (segment_for new) old two) c.name_by_home.result c.name_by_home.ensures.same
    (row_room new.room records new (unwrap_or new.name nameless) c.args.twin cell at old two c.in_ok-cell.ensures
    (room_behind new.room records cell at old one two (c.name_by_home.ensures.leaves.changed.places (set_of records.cells cell)) c.in_ok-at.ensures.room))

pub returns-clause-leaves : goal.returns-clause-leaves
returns-clause-leaves g c =
    let records = c.args.self.now in
    let mid = c.hold.new.self in
    let at = c.in_ok-at.at in
    let old = g.H.Shelf.seen c.args.shelf.now in
    let one = g.H.Shelf.seen c.hold.new.shelf in
    let two = g.H.Shelf.seen c.name_by_home.new.shelf in
    let st = c.in_ok-at.ensures.stored in
    side_more
    (side_then (room_need c.args.new.room) 0 records mid st.cells.first (ap (λ (r : KeyedSet). r.set) st.roots) c.hold.ensures.leaves
    (changes_at mid one two at (g.met.H.Shelf.told_alike c.hold.new.shelf) (g.met.H.Shelf.told_alike c.name_by_home.new.shelf) (stored_within records mid c.in_ok-cell.cell at old one st) c.name_by_home.ensures.leaves)
    (g.met.H.Shelf.steady_then c.args.shelf.now c.hold.new.shelf c.name_by_home.new.shelf)) (omega arith)
