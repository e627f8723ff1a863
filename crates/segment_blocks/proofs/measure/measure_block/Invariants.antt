use Rattle.std.proofs.Common.{length, ◌-◌}
use Rattle.segment_blocks.proofs.Measuring.{Measured}
use Rattle.segment_blocks.proofs.measure.measure_block.Given as goal

abbrev pub invariant-loop-at : goal.invariant-loop-at
invariant-loop-at l = Measured l.shapes l.block l.at l.after_hole l.space

abbrev pub decreases-loop-at : goal.decreases-loop-at
decreases-loop-at l = length l.block - l.at
