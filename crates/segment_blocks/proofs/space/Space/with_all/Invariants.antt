use Rattle.std.proofs.Common.{◌≡◌, List, ◌++◌, take}
use Rattle.segment_blocks.specs.declared.tile.Tile.{Tile}
use Rattle.segment_blocks.specs.Space.{space_of}
use Rattle.segment_blocks.proofs.space.Space.with_all.Given as goal

abbrev pub invariant-loop-tile : goal.invariant-loop-tile
invariant-loop-tile l = (before : List Tile) → l.fn.self ≡ space_of before → l.space ≡ space_of (before ++ take l.tile-index l.tiles)
