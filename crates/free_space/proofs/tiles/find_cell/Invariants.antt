use Rattle.std.proofs.Common.{◌≡◌, ℕ, ◌<◌, slice_get, Some}
use Rattle.segment_blocks.specs.declared.tile.Cell.{Cell}
use Rattle.segment_blocks.specs.declared.tile.Tile.TheVariants.{Seg}
use Rattle.free_space.proofs.tiles.find_cell.Given as goal

abbrev pub invariant-loop-place : goal.invariant-loop-place
invariant-loop-place l = (k : ℕ) (cell : Cell) → k < l.place → slice_get l.tiles k ≡ Some (Seg l.offset cell) → ⊥
