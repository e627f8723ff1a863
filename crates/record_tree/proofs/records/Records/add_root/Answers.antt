use Rattle.std.proofs.Common.{◌≡◌, ◌∙◌, ◌+◌, ◌<◌, ◌^◌, ℕ, List, length, ap, subst, arith}
use Rattle.std.proofs.lemmas.Result.{err_from_is_err_and}
use Rattle.hal_base.specs.declared.outcome.PageFault.TheVariants as page
use Rattle.hal_base.specs.declared.pages.SetId.{SetId}
use Rattle.free_space.specs.Side.{lettered, place_of}
use Rattle.keyed_sets.specs.declared.set.KeyedSet.{KeyedSet}
use Rattle.record_walk.specs.Side.{key_of}
use Rattle.record_tree.specs.Placing.{unplaced}
use Rattle.record_tree.specs.Storing.{room_need, named_cell, segment_for}
use Rattle.record_tree.proofs.Opening.{one_fault, ok_not_err}
use Rattle.record_tree.proofs.Frames.{side_none, side_then, side_fault}
use Rattle.record_tree.proofs.Storing.{set_of_roots, place_below}
use Rattle.record_tree.proofs.Rooted.{comes_as_root}
use Rattle.record_tree.proofs.RootPut.{roots_grow, shaped_row, is_rooted}
use Rattle.record_tree.proofs.Rooms.{row_room_around, unmoved}
use Rattle.record_tree.proofs.records.Records.add_root.Goals as goal

pub returns-in_err-key-clause-leaves : goal.returns-in_err-key-clause-leaves
returns-in_err-key-clause-leaves g c =
    let p = err_from_is_err_and c.from_residual.result c.from_residual.ensures.1 in
    side_none (room_need c.args.new.room + 1) c.args.self.now (g.H.Shelf.seen c.args.shelf.now) (g.met.H.Shelf.steady_none c.args.shelf.now) c.requires.live (λ is. let first = p.1 in let second = p.2 in cc)

pub put-requires-clause-shaped : goal.put-requires-clause-shaped
put-requires-clause-shaped g c =
    let records = c.args.self.now in
    let new = c.args.new in
    let st = c.in_ok-at.ensures.stored in
    let key_ok : c.in_ok-key.key ≡ c.root_key.result.now = c.in_ok-key.ensures in
    shaped_row c.schemas_are_kept.ensures records c.store.new.self new 0 c.in_ok-at.at (g.H.Shelf.seen c.args.shelf.now) (g.H.Shelf.seen c.store.new.shelf) c.as_slice-2.result.now c.to_be_bytes.result c.requires.stands st c.requires.root.code
    c.requires.fits (c.as_slice-2.ensures ∙ key_ok ∙ c.root_key.ensures ∙ ap (λ (l : List ℕ). key_of c.args.self.now.schema (unplaced 1 l)) c.as_slice.ensures) (ap (λ (l : List ℕ). length l) c.to_be_bytes.ensures)

pub returns-in_err-put-clause-leaves : goal.returns-in_err-put-clause-leaves
returns-in_err-put-clause-leaves g c =
    let records = c.args.self.now in
    let mid = c.store.new.self in
    let most : ℕ = room_need c.args.new.room in
    let old = g.H.Shelf.seen c.args.shelf.now in
    let one = g.H.Shelf.seen c.store.new.shelf in
    let two = g.H.Shelf.seen c.put.new.shelf in
    let at = c.in_ok-at.at in
    let st = c.in_ok-at.ensures.stored in
    let p = err_from_is_err_and c.from_residual-in_err-put.result c.from_residual-in_err-put.ensures.1 in
    let q = one_fault c.put.result c.from_residual-in_err-put.result _ p.0 page.Failed c.in_err-put.was p.1 p.2 in
    let grow = roots_grow c.others_leave_a_side_open.ensures mid one two (g.met.H.Shelf.told_alike c.store.new.shelf) (g.met.H.Shelf.told_alike c.put.new.shelf)
    (set_of_roots records mid (named_cell records c.args.new 0 at) at old one c.requires.stands st) st.cells.stands c.put.ensures.leaves in
    side_fault
    (side_then most 1 records mid st.cells.first (ap (λ (r : KeyedSet). r.set) st.roots) c.store.ensures.leaves grow.changes
    (g.met.H.Shelf.steady_then c.args.shelf.now c.store.new.shelf c.put.new.shelf)) q.0 q.1

pub returns-clause-comes : goal.returns-clause-comes
returns-clause-comes g c =
    let records = c.args.self.now in
    let mid = c.store.new.self in
    let old = g.H.Shelf.seen c.args.shelf.now in
    let one = g.H.Shelf.seen c.store.new.shelf in
    let two = g.H.Shelf.seen c.put.new.shelf in
    let at = c.in_ok-at.at in
    let new = c.args.new in
    let st = c.in_ok-at.ensures.stored in
    let key_ok : c.in_ok-key.key ≡ c.root_key.result.now = c.in_ok-key.ensures in
    let small : at < 2 ^ 32 = omega arith in
    let grow = roots_grow c.others_leave_a_side_open.ensures mid one two (g.met.H.Shelf.told_alike c.store.new.shelf) (g.met.H.Shelf.told_alike c.put.new.shelf)
    (set_of_roots records mid (named_cell records new 0 at) at old one c.requires.stands st) st.cells.stands c.put.ensures.leaves in
    comes_as_root c.changed_sides.ensures c.first_roots_are_inserted.ensures c.new_segments_are_listed.ensures c.no_side_cell_is_at_zero.ensures c.roots_go_by_key.ensures c.roots_go_by_rows.ensures c.rows_come_and_go.ensures records mid
    (record mid { roots = c.put.new.self }) new at old one two
    (is_rooted c.rows_rise.ensures.of_pages c.rows_rise.ensures.put records mid c.put.new.self new at old one two (g.met.H.Shelf.told_alike c.store.new.shelf) c.as_slice-2.result.now c.to_be_bytes.result
    (c.as_slice-2.ensures ∙ key_ok ∙ c.root_key.ensures ∙ ap (λ (l : List ℕ). key_of c.args.self.now.schema (unplaced 1 l)) c.as_slice.ensures) c.to_be_bytes.ensures c.requires.stands c.requires.root st grow c.put.ensures.opened c.in_ok-put.ensures.puts small)

pub returns-clause-room : goal.returns-clause-room
returns-clause-room g c =
    let records = c.args.self.now in
    let mid = c.store.new.self in
    let old = g.H.Shelf.seen c.args.shelf.now in
    let one = g.H.Shelf.seen c.store.new.shelf in
    let two = g.H.Shelf.seen c.put.new.shelf in
    let at = c.in_ok-at.at in
    let st = c.in_ok-at.ensures.stored in
    let grow = roots_grow c.others_leave_a_side_open.ensures mid one two (g.met.H.Shelf.told_alike c.store.new.shelf) (g.met.H.Shelf.told_alike c.put.new.shelf)
    (set_of_roots records mid (named_cell records c.args.new 0 at) at old one c.requires.stands st) st.cells.stands c.put.ensures.leaves in
    row_room_around c.args.new.room records (segment_for c.args.new) at old old one two (unmoved old)
    (λ cell.
    let letters = records.cells.letters in
    subst (λ (first : SetId). two.places (lettered first (place_of letters cell.code)) ≡ one.places (lettered first (place_of letters cell.code))) st.cells.first
    (grow.places (place_of letters cell.code) (place_below letters cell.code c.requires.stands.cells.letters))) c.in_ok-at.ensures.room

pub returns-clause-leaves : goal.returns-clause-leaves
returns-clause-leaves g c =
    let records = c.args.self.now in
    let mid = c.store.new.self in
    let most : ℕ = room_need c.args.new.room in
    let old = g.H.Shelf.seen c.args.shelf.now in
    let one = g.H.Shelf.seen c.store.new.shelf in
    let two = g.H.Shelf.seen c.put.new.shelf in
    let at = c.in_ok-at.at in
    let st = c.in_ok-at.ensures.stored in
    let grow = roots_grow c.others_leave_a_side_open.ensures mid one two (g.met.H.Shelf.told_alike c.store.new.shelf) (g.met.H.Shelf.told_alike c.put.new.shelf)
    (set_of_roots records mid (named_cell records c.args.new 0 at) at old one c.requires.stands st) st.cells.stands c.put.ensures.leaves in
    side_fault
    (side_then most 1 records mid st.cells.first (ap (λ (r : KeyedSet). r.set) st.roots) c.store.ensures.leaves grow.changes
    (g.met.H.Shelf.steady_then c.args.shelf.now c.store.new.shelf c.put.new.shelf))
    (λ is. absurd (ok_not_err c.put.result c.in_ok-put.field-0 page.Failed c.in_ok-put.was is)) (λ is. cc)
