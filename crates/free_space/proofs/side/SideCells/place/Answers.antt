use Rattle.std.proofs.Common.{◌∙◌, ap, refl}
use Rattle.std.specs.Vec.{with_item}
use Rattle.free_space.specs.declared.side.SideCells.{SideCells}
use Rattle.free_space.specs.Side.{lettered}
use Rattle.free_space.specs.Placing.{length_of, NoHoleFits}
use Rattle.free_space.proofs.SideSteps.{called, letter_here, side_stays, all_cases, placed_cell, none_came, said_of, grown_others, grows_in}
use Rattle.free_space.proofs.side.SideCells.place.Goals as goal

pub returns-clause-placed : goal.returns-clause-placed
returns-clause-placed g c =
    let side = c.args.self.now in
    let place = c.place_of-place.result in
    let store = c.index_mut.result.now in
    let old = g.H.Shelf.seen c.args.shelf.now in
    let new = g.H.Shelf.seen c.place.new.shelf in
    let now : SideCells = record side { stores = with_item side.stores place c.place.new.self } in
    let was = called side now place store old new c.requires.stands (g.met.H.Shelf.told_alike c.args.shelf.now) (g.met.H.Shelf.told_alike c.place.new.shelf) c.place_of-place.ensures.below c.index_mut.ensures.value
    (grown_others c.place.ensures.leaves.changes.grown) refl refl in
    all_cases c.place.result c.place.ensures.placed (λ at put. placed_cell side now place store old new c.args.cell.now at was c.place_of-place.ensures.place put) (λ fault empty. none_came side now place store old new c.args.cell.now was c.place_of-place.ensures.place empty)

pub returns-clause-no_room : goal.returns-clause-no_room
returns-clause-no_room g c = λ is.
    let letter = (letter_here c.args.self.now (g.H.Shelf.seen c.args.shelf.now) c.place_of-place.result c.index_mut.result.now c.requires.stands c.place_of-place.ensures.below c.index_mut.ensures.value).1 in
    let e = c.place.ensures.no_room is in
    record { none_free = e.0; same = e.1; no_hole = said_of c.args.self.now c.place_of-place.result c.index_mut.result.now (g.H.Shelf.seen c.args.shelf.now) c.args.cell.now (NoHoleFits (length_of c.args.cell.now)) letter c.place_of-place.ensures.place e.2 }

pub returns-clause-stays : goal.returns-clause-stays
returns-clause-stays g c =
    let there = letter_here c.args.self.now (g.H.Shelf.seen c.args.shelf.now) c.place_of-place.result c.index_mut.result.now c.requires.stands c.place_of-place.ensures.below c.index_mut.ensures.value in
    side_stays c.args.self.now (record c.args.self.now { stores = with_item c.args.self.now.stores c.place_of-place.result c.place.new.self }) c.place_of-place.result c.index_mut.result.now c.place.new.self (g.H.Shelf.seen c.args.shelf.now) (g.H.Shelf.seen c.place.new.shelf) c.requires.stands there.0 refl refl refl refl
    c.place.ensures.stays (grown_others c.place.ensures.leaves.changes.grown)

pub returns-clause-leaves : goal.returns-clause-leaves
returns-clause-leaves g c =
    let letter = (letter_here c.args.self.now (g.H.Shelf.seen c.args.shelf.now) c.place_of-place.result c.index_mut.result.now c.requires.stands c.place_of-place.ensures.below c.index_mut.ensures.value).1 in
    grows_in (λ set. 1) (letter.set ∙ ap (lettered c.args.self.now.first) c.place_of-place.ensures.place) c.place.ensures.leaves
