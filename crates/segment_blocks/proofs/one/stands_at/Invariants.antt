use Rattle.std.proofs.Common.{List, ◌-◌}
use Rattle.hal_base.specs.declared.place.Shape.{Shape}
use Rattle.segment_blocks.specs.declared.tile.Tile.{Tile}
use Rattle.segment_blocks.specs.Tiling.{IsTiling}
use Rattle.segment_blocks.proofs.Stepping.{WalksTo}
use Rattle.segment_blocks.proofs.one.stands_at.Given as goal

abbrev pub invariant-loop-start : goal.invariant-loop-start
invariant-loop-start l = (shapes : List Shape) (tiles : List Tile) → IsTiling shapes l.block tiles → WalksTo shapes l.block tiles l.at l.start

abbrev pub decreases-loop-start : goal.decreases-loop-start
decreases-loop-start l = l.end - l.start
