use Rattle.std.proofs.Common.{length, ◌-◌}
use Rattle.segment_blocks.proofs.Progress.{Progress}
use Rattle.segment_blocks.proofs.parse.all_tiles.Given as goal

abbrev pub invariant-loop-at : goal.invariant-loop-at
invariant-loop-at l = Progress l.shapes l.block l.tiles l.at l.after_hole

abbrev pub decreases-loop-at : goal.decreases-loop-at
decreases-loop-at l = length l.block - l.at
