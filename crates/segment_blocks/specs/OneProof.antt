-- That a body is tiled has one proof, so that a type may keep it.
use Rattle.std.specs.Prelude.{ℕ, ◌+◌, ◌^◌, ◌<◌, Bool, true, false, List, [], ◌∷◌, length}
use Rattle.std.specs.Coded.{le_prop, Coded-set, codes}
use Rattle.std.specs.List.{AllByRecursion}
use Rattle.hal_base.specs.declared.place.Shape.{Shape}
use Rattle.segment_blocks.specs.declared.tile.Cell.{Cell}
use Rattle.segment_blocks.specs.declared.tile.Tile.{Tile}
use Rattle.segment_blocks.specs.declared.tile.Tile.TheVariants.{Hole, Seg}
use Rattle.segment_blocks.specs.Tiling.{Fits, IsCell, AreTilesFrom, IsTiling, spelling}

few_bytes : (addresses : List ℕ) → IsProp (AllByRecursion (λ child. child < 2 ^ 32) addresses)
few_bytes [] = hlevel
few_bytes (x ∷ xs) = hlevel (le_prop, few_bytes xs)

fits : (cell : Cell) → IsProp (Fits cell)
fits cell = hlevel (le_prop, few_bytes cell.children)

is_cell : (shapes : List Shape) (cell : Cell) → IsProp (IsCell shapes cell)
is_cell shapes cell = hlevel (le_prop, Coded-set, codes, fits cell)

are_tiles : (shapes : List Shape) (start : ℕ) (after_hole : Bool) (tiles : List Tile) → IsProp (AreTilesFrom shapes start after_hole tiles)
are_tiles shapes start after_hole [] = hlevel
are_tiles shapes start after_hole (Hole at len ∷ tiles) = hlevel (le_prop, Coded-set, codes, are_tiles shapes (start + length (spelling (Hole at len))) true tiles)
are_tiles shapes start after_hole (Seg at cell ∷ tiles) = hlevel (le_prop, Coded-set, codes, is_cell shapes cell, are_tiles shapes (start + length (spelling (Seg at cell))) false tiles)

pub IsTiling-prop : (shapes : List Shape) (block : List ℕ) (tiles : List Tile) → IsProp (IsTiling shapes block tiles)
IsTiling-prop shapes block tiles = hlevel (le_prop, Coded-set, codes, are_tiles shapes 16 false tiles)
