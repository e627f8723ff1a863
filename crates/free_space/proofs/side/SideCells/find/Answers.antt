use Rattle.std.proofs.Common.{◌<◌, arith}
use Rattle.free_space.proofs.SideSteps.{letter_here, no_place, finds, side_same, each_ok}
use Rattle.free_space.proofs.side.SideCells.find.Goals as goal

pub returns-then-place-len-clause-found : goal.returns-then-place-len-clause-found
returns-then-place-len-clause-found g c = λ told.
    no_place c.args.self.now.first c.args.self.now.shapes (g.H.Shelf.seen c.args.shelf.now) c.args.at (omega (arith, c.if-place-len.true, c.len.ensures, c.place_at-place.ensures, c.requires.stands.ten))

pub find-requires-clause-stands : goal.find-requires-clause-stands
find-requires-clause-stands g c =
    let below : c.place_at-place.result < 10 = omega (arith, c.if-place-len.false, c.len.ensures, c.requires.stands.ten) in
    (letter_here c.args.self.now (g.H.Shelf.seen c.args.shelf.now) c.place_at-place.result c.index.result.now c.requires.stands below c.index.ensures).1.stands

pub returns-clause-found : goal.returns-clause-found
returns-clause-found g c =
    let below : c.place_at-place.result < 10 = omega (arith, c.if-place-len.false, c.len.ensures, c.requires.stands.ten) in
    let letter = (letter_here c.args.self.now (g.H.Shelf.seen c.args.shelf.now) c.place_at-place.result c.index.result.now c.requires.stands below c.index.ensures).1 in
    each_ok c.find.result c.find.ensures.found (λ found stands. finds c.args.self.now c.place_at-place.result c.index.result.now (g.H.Shelf.seen c.args.shelf.now) c.args.at found
    (g.met.H.Shelf.told_alike c.args.shelf.now) letter c.place_at-place.ensures below stands)

pub returns-clause-stands : goal.returns-clause-stands
returns-clause-stands g c = side_same c.args.self.now (g.H.Shelf.seen c.args.shelf.now) (g.H.Shelf.seen c.find.new.shelf) c.requires.stands c.find.ensures.leaves.same
