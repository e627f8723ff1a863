use Rattle.std.proofs.Common.{◌<◌, ◌∙◌, ap, refl, arith}
use Rattle.std.specs.Vec.{with_item}
use Rattle.free_space.specs.declared.side.SideCells.{SideCells}
use Rattle.free_space.specs.Side.{lettered, place_at}
use Rattle.free_space.specs.Changes.{GivesBack}
use Rattle.free_space.proofs.Told.{writes_none}
use Rattle.free_space.proofs.SideSteps.{called, lays, letter_here, side_stays, holds, ok_weaker, gone_cell, changed_others, writes_in}
use Rattle.free_space.proofs.side.SideCells.give_back.Goals as goal

pub give_back-requires-clause-cell : goal.give_back-requires-clause-cell
give_back-requires-clause-cell g c =
    let below : c.place_at-place.result < 10 = omega (arith, c.if-place-len.false, c.len.ensures, c.requires.stands.ten) in
    let letter = (letter_here c.args.self.now (g.H.Shelf.seen c.args.shelf.now) c.place_at-place.result c.index_mut.result.now c.requires.stands below c.index_mut.ensures.value).1 in
    holds c.args.self.now c.place_at-place.result c.index_mut.result.now (g.H.Shelf.seen c.args.shelf.now) c.args.at _ (g.met.H.Shelf.told_alike c.args.shelf.now) letter c.place_at-place.ensures below c.requires.cell

pub returns-clause-drops : goal.returns-clause-drops
returns-clause-drops g c =
    let side = c.args.self.now in
    let place = c.place_at-place.result in
    let store = c.index_mut.result.now in
    let old = g.H.Shelf.seen c.args.shelf.now in
    let new = g.H.Shelf.seen c.give_back.new.shelf in
    let below : place < 10 = omega (arith, c.if-place-len.false, c.len.ensures, c.requires.stands.ten) in
    let now : SideCells = record side { stores = with_item side.stores place c.give_back.new.self } in
    let was = called side now place store old new c.requires.stands (g.met.H.Shelf.told_alike c.args.shelf.now) (g.met.H.Shelf.told_alike c.give_back.new.shelf) below c.index_mut.ensures.value
    (changed_others c.give_back.ensures.leaves.changes.changed) refl refl in
    record {
      dropped = ok_weaker c.give_back.result c.give_back.ensures.given_back (λ gone. gone_cell side now place store old new c.args.at was c.place_at-place.ensures gone);
      tiles = ok_weaker c.give_back.result c.give_back.ensures.given_back (λ gone. lays store (lettered side.first (place_at c.args.at)) side.shapes old new (λ set. GivesBack set c.args.at)
          (was.letter.set ∙ ap (lettered side.first) c.place_at-place.ensures) was.letter.shapes gone);
      unchanged = c.give_back.ensures.unchanged;
      room = c.give_back.ensures.room;
    }

pub returns-clause-stays : goal.returns-clause-stays
returns-clause-stays g c =
    let below : c.place_at-place.result < 10 = omega (arith, c.if-place-len.false, c.len.ensures, c.requires.stands.ten) in
    let there = letter_here c.args.self.now (g.H.Shelf.seen c.args.shelf.now) c.place_at-place.result c.index_mut.result.now c.requires.stands below c.index_mut.ensures.value in
    side_stays c.args.self.now (record c.args.self.now { stores = with_item c.args.self.now.stores c.place_at-place.result c.give_back.new.self }) c.place_at-place.result c.index_mut.result.now c.give_back.new.self (g.H.Shelf.seen c.args.shelf.now) (g.H.Shelf.seen c.give_back.new.shelf) c.requires.stands there.0 refl refl refl refl
    c.give_back.ensures.stays (changed_others c.give_back.ensures.leaves.changes.changed)

pub returns-clause-leaves : goal.returns-clause-leaves
returns-clause-leaves g c =
    let below : c.place_at-place.result < 10 = omega (arith, c.if-place-len.false, c.len.ensures, c.requires.stands.ten) in
    let letter = (letter_here c.args.self.now (g.H.Shelf.seen c.args.shelf.now) c.place_at-place.result c.index_mut.result.now c.requires.stands below c.index_mut.ensures.value).1 in
    writes_in (letter.set ∙ ap (lettered c.args.self.now.first) c.place_at-place.ensures) c.give_back.ensures.leaves

pub returns-then-place-len-clause-leaves : goal.returns-then-place-len-clause-leaves
returns-then-place-len-clause-leaves g c = writes_none 1 _ (g.H.Shelf.seen c.args.shelf.now) (g.met.H.Shelf.steady_none c.args.shelf.now) c.requires.live (λ failed. let wrong = failed in cc)
