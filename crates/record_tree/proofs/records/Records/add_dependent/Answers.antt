use Rattle.std.proofs.Common.{◌+◌, ℕ, length, refl, ap, arith}
use Rattle.std.proofs.lemmas.Result.{err_from_is_err_and}
use Rattle.hal_base.specs.declared.outcome.PageFault.TheVariants as page
use Rattle.hal_schema.specs.declared.schema.Schema.{Schema}
use Rattle.free_space.specs.SideCalls.{set_of}
use Rattle.keyed_sets.specs.declared.set.KeyedSet.{KeyedSet}
use Rattle.record_tree.specs.Storing.{room_need, pointer_home, named_cell, segment_for}
use Rattle.record_tree.proofs.Opening.{one_fault, ok_not_err}
use Rattle.record_tree.proofs.Staying.{records_same}
use Rattle.record_tree.proofs.Frames.{changes_at, side_then, side_fault, side_more, side_read}
use Rattle.record_tree.proofs.Storing.{fits_of, beside_stored}
use Rattle.record_tree.proofs.Joining.{joins, joins_same, pointer_on, reads_on, pointer_stored, pointer_within}
use Rattle.record_tree.proofs.Rooms.{row_room_around}
use Rattle.record_tree.proofs.records.Records.add_dependent.Goals as goal

pub returns-in_err-to-clause-leaves : goal.returns-in_err-to-clause-leaves
returns-in_err-to-clause-leaves g c =
    let p = err_from_is_err_and c.from_residual.result c.from_residual.ensures.1 in
    let q = one_fault c.pointer.result c.from_residual.result _ p.0 page.Failed c.in_err-to.was p.1 p.2 in
    side_fault (side_read (room_need c.args.new.room) c.args.self.now c.pointer.ensures.leaves) q.0 q.1

pub store-requires-clause-stands : goal.store-requires-clause-stands
store-requires-clause-stands g c = records_same c.args.self.now (g.H.Shelf.seen c.args.shelf.now) (g.H.Shelf.seen c.pointer.new.shelf) c.requires.stands c.pointer.ensures.leaves.same

pub returns-in_err-at-clause-leaves : goal.returns-in_err-at-clause-leaves
returns-in_err-at-clause-leaves g c =
    let records = c.args.self.now in
    let most : ℕ = room_need c.args.new.room in
    let p = err_from_is_err_and c.from_residual-in_err-at.result c.from_residual-in_err-at.ensures.1 in
    let q = one_fault c.store.result c.from_residual-in_err-at.result _ p.0 page.Failed c.in_err-at.was p.1 p.2 in
    side_fault (side_more (side_then 0 most records records refl refl (side_read 0 records c.pointer.ensures.leaves) c.store.ensures.leaves (g.met.H.Shelf.steady_then c.args.shelf.now c.pointer.new.shelf c.store.new.shelf)) (omega arith)) q.0 q.1

pub set_pointer-requires-clause-coded : goal.set_pointer-requires-clause-coded
set_pointer-requires-clause-coded g c =
    let f = fits_of c.args.self.now.schema c.args.new.code c.args.new.content c.requires.fits in
    let code_is = f.code_is in
    omega (arith, code_is)

pub set_pointer-requires-clause-known : goal.set_pointer-requires-clause-known
set_pointer-requires-clause-known g c =
    let f = fits_of c.args.self.now.schema c.args.new.code c.args.new.content c.requires.fits in
    let code_is = f.code_is in
    let within = f.within in
    let same = ap (λ (s : Schema). length s.types) c.in_ok-at.ensures.stored.schema in
    omega (arith, code_is, within, same)

pub set_pointer-requires-clause-cell : goal.set_pointer-requires-clause-cell
set_pointer-requires-clause-cell g c =
    let records = c.args.self.now in
    let old = g.H.Shelf.seen c.args.shelf.now in
    let one = g.H.Shelf.seen c.pointer.new.shelf in
    let two = g.H.Shelf.seen c.store.new.shelf in
    pointer_stored records c.store.new.self c.args.above c.args.prior c.args.new c.in_ok-to.to c.in_ok-at.at one two
    (reads_on records old one c.args.above c.args.prior c.args.new.code c.in_ok-to.to c.pointer.ensures.leaves.same c.in_ok-to.ensures.reads) c.in_ok-at.ensures.stored

pub returns-in_err-set_pointer-clause-leaves : goal.returns-in_err-set_pointer-clause-leaves
returns-in_err-set_pointer-clause-leaves g c =
    let records = c.args.self.now in
    let mid = c.store.new.self in
    let most : ℕ = room_need c.args.new.room in
    let old = g.H.Shelf.seen c.args.shelf.now in
    let one = g.H.Shelf.seen c.pointer.new.shelf in
    let two = g.H.Shelf.seen c.store.new.shelf in
    let three = g.H.Shelf.seen c.set_pointer.new.shelf in
    let st = c.in_ok-at.ensures.stored in
    let reads = reads_on records old one c.args.above c.args.prior c.args.new.code c.in_ok-to.to c.pointer.ensures.leaves.same c.in_ok-to.ensures.reads in
    let p = err_from_is_err_and c.from_residual-in_err-set_pointer.result c.from_residual-in_err-set_pointer.ensures.1 in
    let q = one_fault c.set_pointer.result c.from_residual-in_err-set_pointer.result _ p.0 page.Failed c.in_err-set_pointer.was p.1 p.2 in
    let stored = side_then 0 most records records refl refl (side_read 0 records c.pointer.ensures.leaves) c.store.ensures.leaves (g.met.H.Shelf.steady_then c.args.shelf.now c.pointer.new.shelf c.store.new.shelf) in
    side_fault
    (side_more
    (side_then (0 + most) 0 records mid st.cells.first (ap (λ (r : KeyedSet). r.set) st.roots) stored
    (changes_at mid two three (pointer_home c.args.above c.args.prior) (g.met.H.Shelf.told_alike c.store.new.shelf) (g.met.H.Shelf.told_alike c.set_pointer.new.shelf)
    (pointer_within records mid c.args.above c.args.prior c.args.new c.in_ok-to.to c.in_ok-at.at one two reads st) c.set_pointer.ensures.leaves)
    (g.met.H.Shelf.steady_then c.args.shelf.now c.store.new.shelf c.set_pointer.new.shelf)) (omega arith)) q.0 q.1

pub returns-clause-joins : goal.returns-clause-joins
returns-clause-joins g c =
    let records = c.args.self.now in
    let mid = c.store.new.self in
    let above = c.args.above in
    let prior = c.args.prior in
    let new = c.args.new in
    let to = c.in_ok-to.to in
    let at = c.in_ok-at.at in
    let old = g.H.Shelf.seen c.args.shelf.now in
    let one = g.H.Shelf.seen c.pointer.new.shelf in
    let two = g.H.Shelf.seen c.store.new.shelf in
    let three = g.H.Shelf.seen c.set_pointer.new.shelf in
    let same = c.pointer.ensures.leaves.same in
    let st = c.in_ok-at.ensures.stored in
    let reads = reads_on records old one above prior new.code to same c.in_ok-to.ensures.reads in
    let stands = records_same records old one c.requires.stands same in
    joins_same records mid above prior new at old one three same
    (joins c.changed_sides.ensures c.no_side_cell_is_at_zero.ensures c.schemas_are_kept.ensures c.child_places.ensures records mid above prior new to at one two three
    (record {
      stands = stands;
      pointer = pointer_on records old one above prior new.code same c.requires.pointer;
      reads = reads;
      stored = st;
      beside = beside_stored records mid (named_cell records new to at) at (pointer_home above prior) one two three (g.met.H.Shelf.told_alike c.store.new.shelf) (g.met.H.Shelf.told_alike c.set_pointer.new.shelf) stands st
          (pointer_within records mid above prior new to at one two reads st) c.set_pointer.ensures.leaves;
      side = c.set_pointer.ensures.stands;
      set = c.in_ok-set_pointer.ensures.set;
    }))

pub returns-clause-room : goal.returns-clause-room
returns-clause-room g c =
    let records = c.args.self.now in
    row_room_around c.args.new.room records (segment_for c.args.new) c.in_ok-at.at (g.H.Shelf.seen c.args.shelf.now) (g.H.Shelf.seen c.pointer.new.shelf) (g.H.Shelf.seen c.store.new.shelf) (g.H.Shelf.seen c.set_pointer.new.shelf) c.pointer.ensures.leaves.same
    (λ cell. c.set_pointer.ensures.leaves.changed.places (set_of records.cells cell)) c.in_ok-at.ensures.room

pub returns-clause-leaves : goal.returns-clause-leaves
returns-clause-leaves g c =
    let records = c.args.self.now in
    let mid = c.store.new.self in
    let most : ℕ = room_need c.args.new.room in
    let old = g.H.Shelf.seen c.args.shelf.now in
    let one = g.H.Shelf.seen c.pointer.new.shelf in
    let two = g.H.Shelf.seen c.store.new.shelf in
    let three = g.H.Shelf.seen c.set_pointer.new.shelf in
    let st = c.in_ok-at.ensures.stored in
    let reads = reads_on records old one c.args.above c.args.prior c.args.new.code c.in_ok-to.to c.pointer.ensures.leaves.same c.in_ok-to.ensures.reads in
    let stored = side_then 0 most records records refl refl (side_read 0 records c.pointer.ensures.leaves) c.store.ensures.leaves (g.met.H.Shelf.steady_then c.args.shelf.now c.pointer.new.shelf c.store.new.shelf) in
    side_fault
    (side_more
    (side_then (0 + most) 0 records mid st.cells.first (ap (λ (r : KeyedSet). r.set) st.roots) stored
    (changes_at mid two three (pointer_home c.args.above c.args.prior) (g.met.H.Shelf.told_alike c.store.new.shelf) (g.met.H.Shelf.told_alike c.set_pointer.new.shelf)
    (pointer_within records mid c.args.above c.args.prior c.args.new c.in_ok-to.to c.in_ok-at.at one two reads st) c.set_pointer.ensures.leaves)
    (g.met.H.Shelf.steady_then c.args.shelf.now c.store.new.shelf c.set_pointer.new.shelf)) (omega arith))
    (λ is. absurd (ok_not_err c.set_pointer.result c.in_ok-set_pointer.field-0 page.Failed c.in_ok-set_pointer.was is)) (λ is. cc)
