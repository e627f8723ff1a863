use Rattle.std.proofs.Common.{ap, arith}
use Rattle.segment_blocks.specs.Space.{hole_length}
use Rattle.segment_blocks.proofs.Spaces.{largest_more}
use Rattle.free_space.proofs.tiles.first_gap.Goals as goal
use Rattle.free_space.proofs.tiles.first_gap.Goals.{in-Hole+else-room-len, in_default}

pub loop-place-preserved : goal.loop-place-preserved
loop-place-preserved c =
    elim c.match-tile.branch [
      | in-Hole+else-room-len w ↦ largest_more c.args.tiles.now c.loop-place.place c.args.len c.index-tiles-place.result c.loop-place-test.true c.index-tiles-place.is (omega (arith, ap hole_length w.in-Hole.is, w.if-room-len.false)) c.loop-place.invariant
      | in_default w ↦ largest_more c.args.tiles.now c.loop-place.place c.args.len c.index-tiles-place.result c.loop-place-test.true c.index-tiles-place.is (omega (arith, ap hole_length w.in_default.is)) c.loop-place.invariant
    ]
