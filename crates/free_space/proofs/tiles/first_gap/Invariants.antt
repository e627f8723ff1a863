use Rattle.std.proofs.Common.{◌<◌, take}
use Rattle.segment_blocks.specs.Space.{largest_hole}
use Rattle.free_space.proofs.tiles.first_gap.Given as goal

abbrev pub invariant-loop-place : goal.invariant-loop-place
invariant-loop-place l = largest_hole (take l.place l.tiles) < l.len
