use Rattle.std.proofs.Common.{◌≡◌, ◌+◌, length, ap, arith}
use Rattle.segment_blocks.specs.Space.{hole_length}
use Rattle.segment_blocks.proofs.Spaces.{last_is}
use Rattle.free_space.proofs.tiles.last_gap.Goals as goal

pub returns-in_default-clause-none : goal.returns-in_default-clause-none
returns-in_default-clause-none c =
    let last : c.in_ok-place.place + 1 ≡ length c.args.tiles.now = let e = c.in_ok-place.ensures in omega (arith, e.0, e.1) in
    omega (arith, last_is c.args.tiles.now c.in_ok-place.place c.index-tiles-place.result last c.index-tiles-place.is, ap hole_length c.in-Hole.is, c.if-room-len.false)

pub returns-in_default-2-clause-none : goal.returns-in_default-2-clause-none
returns-in_default-2-clause-none c =
    let last : c.in_ok-place.place + 1 ≡ length c.args.tiles.now = let e = c.in_ok-place.ensures in omega (arith, e.0, e.1) in
    omega (arith, last_is c.args.tiles.now c.in_ok-place.place c.index-tiles-place.result last c.index-tiles-place.is, ap hole_length c.in_default.is, c.requires)
