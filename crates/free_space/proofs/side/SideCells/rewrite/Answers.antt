use Rattle.std.proofs.Common.{◌<◌, sym, ◌∙◌, ap, subst, refl, arith}
use Rattle.hal_base.specs.declared.pages.SetId.{SetId}
use Rattle.free_space.specs.Changes.{changed, Rewrites}
use Rattle.free_space.specs.Map.{Alters}
use Rattle.free_space.specs.Side.{lettered, place_at}
use Rattle.free_space.proofs.Told.{writes_none}
use Rattle.free_space.proofs.SideSteps.{LeavesOthers, letter_here, side_stays, holds, lays, turns, lift_alters, ok_weaker, changed_others, same_there, writes_in}
use Rattle.free_space.proofs.side.SideCells.rewrite.Goals as goal

pub rewrite-requires-clause-cell : goal.rewrite-requires-clause-cell
rewrite-requires-clause-cell g c =
    let below : c.place_at-place.result < 10 = omega (arith, c.if-place-len.false, c.len.ensures, c.requires.stands.ten) in
    let letter = (letter_here c.args.self.now (g.H.Shelf.seen c.args.shelf.now) c.place_at-place.result c.index.result.now c.requires.stands below c.index.ensures).1 in
    holds c.args.self.now c.place_at-place.result c.index.result.now (g.H.Shelf.seen c.args.shelf.now) c.args.at _ (g.met.H.Shelf.told_alike c.args.shelf.now) letter c.place_at-place.ensures below c.requires.cell

pub returns-clause-alters : goal.returns-clause-alters
returns-clause-alters g c =
    let side = c.args.self.now in
    let place = c.place_at-place.result in
    let old = g.H.Shelf.seen c.args.shelf.now in
    let new = g.H.Shelf.seen c.rewrite.new.shelf in
    let below : place < 10 = omega (arith, c.if-place-len.false, c.len.ensures, c.requires.stands.ten) in
    let letter = (letter_here side old place c.index.result.now c.requires.stands below c.index.ensures).1 in
    let leaves = subst (λ (s : SetId). LeavesOthers s old new) letter.set (changed_others c.rewrite.ensures.leaves.changes.changed) in
    record {
      altered = ok_weaker c.rewrite.result c.rewrite.ensures.changed (λ relays.
          turns side.first side.shapes old new place (Rewrites (lettered side.first place) c.args.at (changed c.args.change)) (Alters c.args.at (changed c.args.change)) (g.met.H.Shelf.told_alike c.args.shelf.now)
          (g.met.H.Shelf.told_alike c.rewrite.new.shelf) c.requires.stands.first below leaves
          (lays c.index.result.now (lettered side.first place) side.shapes old new (λ set. Rewrites set c.args.at (changed c.args.change)) letter.set letter.shapes relays)
          (λ pages now i r. lift_alters side.first side.shapes old new place pages now c.args.at (changed c.args.change) i (sym c.place_at-place.ensures) r.alters));
      tiles = ok_weaker c.rewrite.result c.rewrite.ensures.changed (λ relays. lays c.index.result.now (lettered side.first (place_at c.args.at)) side.shapes old new (λ set. Rewrites set c.args.at (changed c.args.change))
          (letter.set ∙ ap (lettered side.first) c.place_at-place.ensures) letter.shapes relays);
      unchanged = c.rewrite.ensures.unchanged;
      room = c.rewrite.ensures.room;
    }

pub returns-clause-stands : goal.returns-clause-stands
returns-clause-stands g c =
    let below : c.place_at-place.result < 10 = omega (arith, c.if-place-len.false, c.len.ensures, c.requires.stands.ten) in
    let there = letter_here c.args.self.now (g.H.Shelf.seen c.args.shelf.now) c.place_at-place.result c.index.result.now c.requires.stands below c.index.ensures in
    (side_stays c.args.self.now c.args.self.now c.place_at-place.result c.index.result.now c.index.result.now (g.H.Shelf.seen c.args.shelf.now) (g.H.Shelf.seen c.rewrite.new.shelf) c.requires.stands there.0 refl refl refl
    (same_there c.args.self.now.stores.items c.place_at-place.result c.index.result.now there.0) (record { set = refl; shapes = refl; stands = c.rewrite.ensures.stands }) (changed_others c.rewrite.ensures.leaves.changes.changed)).stands

pub returns-clause-leaves : goal.returns-clause-leaves
returns-clause-leaves g c =
    let below : c.place_at-place.result < 10 = omega (arith, c.if-place-len.false, c.len.ensures, c.requires.stands.ten) in
    let letter = (letter_here c.args.self.now (g.H.Shelf.seen c.args.shelf.now) c.place_at-place.result c.index.result.now c.requires.stands below c.index.ensures).1 in
    writes_in (letter.set ∙ ap (lettered c.args.self.now.first) c.place_at-place.ensures) c.rewrite.ensures.leaves

pub returns-then-place-len-clause-leaves : goal.returns-then-place-len-clause-leaves
returns-then-place-len-clause-leaves g c = writes_none 1 _ (g.H.Shelf.seen c.args.shelf.now) (g.met.H.Shelf.steady_none c.args.shelf.now) c.requires.live (λ failed. let wrong = failed in cc)
