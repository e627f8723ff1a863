use Rattle.std.proofs.Common.{length, ◌<◌, ◌∙◌, ap, refl, subst}
use Rattle.hal_base.specs.declared.pages.SetId.{SetId}
use Rattle.std.specs.Vec.{with_item}
use Rattle.free_space.specs.declared.side.SideCells.{SideCells}
use Rattle.free_space.specs.Side.{lettered}
use Rattle.free_space.specs.Placing.{opened_pages, length_of, NoPlace}
use Rattle.free_space.proofs.SideSteps.{called, letter_here, side_stays, all_cases, appended_cell, none_came, said_of, grown_others, grows_in}
use Rattle.free_space.proofs.side.SideCells.append.Goals as goal

pub returns-clause-appended : goal.returns-clause-appended
returns-clause-appended g c =
    let side = c.args.self.now in
    let place = c.place_of-place.result in
    let store = c.index_mut.result.now in
    let old = g.H.Shelf.seen c.args.shelf.now in
    let new = g.H.Shelf.seen c.append.new.shelf in
    let now : SideCells = record side { stores = with_item side.stores place c.append.new.self } in
    let was = called side now place store old new c.requires.stands (g.met.H.Shelf.told_alike c.args.shelf.now) (g.met.H.Shelf.told_alike c.append.new.shelf) c.place_of-place.ensures.below c.index_mut.ensures.value
    (grown_others c.append.ensures.leaves.changes.grown) refl refl in
    all_cases c.append.result c.append.ensures.appended (λ at put. appended_cell side now place store old new c.args.cell.now c.args.fbff c.args.fspf at was c.place_of-place.ensures.place put) (λ fault empty. none_came side now place store old new c.args.cell.now was c.place_of-place.ensures.place empty)

pub returns-clause-no_room : goal.returns-clause-no_room
returns-clause-no_room g c = λ is.
    let letter = (letter_here c.args.self.now (g.H.Shelf.seen c.args.shelf.now) c.place_of-place.result c.index_mut.result.now c.requires.stands c.place_of-place.ensures.below c.index_mut.ensures.value).1 in
    let e = c.append.ensures.no_room is in
    record { few_free = subst (λ (s : SetId). length (g.H.Shelf.seen c.args.shelf.now).free < opened_pages c.args.fbff (length ((g.H.Shelf.seen c.args.shelf.now).places s))) (letter.set ∙ ap (lettered c.args.self.now.first) c.place_of-place.ensures.place) e.0; no_place = said_of c.args.self.now c.place_of-place.result c.index_mut.result.now (g.H.Shelf.seen c.args.shelf.now) c.args.cell.now (NoPlace c.args.fbff c.args.fspf (length_of c.args.cell.now)) letter c.place_of-place.ensures.place e.1 }

pub returns-clause-stays : goal.returns-clause-stays
returns-clause-stays g c =
    let there = letter_here c.args.self.now (g.H.Shelf.seen c.args.shelf.now) c.place_of-place.result c.index_mut.result.now c.requires.stands c.place_of-place.ensures.below c.index_mut.ensures.value in
    side_stays c.args.self.now (record c.args.self.now { stores = with_item c.args.self.now.stores c.place_of-place.result c.append.new.self }) c.place_of-place.result c.index_mut.result.now c.append.new.self (g.H.Shelf.seen c.args.shelf.now) (g.H.Shelf.seen c.append.new.shelf) c.requires.stands there.0 refl refl refl refl
    c.append.ensures.stays (grown_others c.append.ensures.leaves.changes.grown)

pub returns-clause-leaves : goal.returns-clause-leaves
returns-clause-leaves g c =
    let letter = (letter_here c.args.self.now (g.H.Shelf.seen c.args.shelf.now) c.place_of-place.result c.index_mut.result.now c.requires.stands c.place_of-place.ensures.below c.index_mut.ensures.value).1 in
    grows_in (λ set. opened_pages c.args.fbff (length ((g.H.Shelf.seen c.args.shelf.now).places set))) (letter.set ∙ ap (lettered c.args.self.now.first) c.place_of-place.ensures.place) c.append.ensures.leaves
