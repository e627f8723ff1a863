-- The tiles of a block as a function of its bytes, and the cell that stands at an offset among tiles.
use Rattle.std.specs.Prelude.{ℕ, zero, suc, ◌+◌, ◌-◌, ◌==◌, if◌then◌else◌, List, [], ◌∷◌, length, get_or, drop, slice_index, Option, None, Some}
use Rattle.hal_base.specs.declared.place.Shape.{Shape}
use Rattle.segment_blocks.specs.declared.tile.Cell.{Cell}
use Rattle.segment_blocks.specs.declared.tile.Tile.{Tile}
use Rattle.segment_blocks.specs.declared.tile.Tile.TheVariants.{Hole, Seg}
use Rattle.segment_blocks.specs.Tiling.{spelling}
use Rattle.segment_blocks.specs.Reading.{number16, cell_in}

-- the one tile that bytes could begin with: a hole where they begin with a zero, else a cell of the type of their code
abbrev pub first_tile : List Shape → ℕ → List ℕ → Tile
first_tile shapes start bytes =
    if slice_index bytes 0 == 0 then Hole start (number16 2 bytes)
    else Seg start (cell_in (get_or shapes (slice_index bytes 1 - 1) (record { children = 0; bytes = 0 })) bytes)

-- the tiles of bytes that stand from `start` on, each behind the one before it, and at most so many
unfoldable pub tiles_from : ℕ → List Shape → ℕ → List ℕ → List Tile
tiles_from zero shapes start bytes = []
tiles_from (suc most) shapes start [] = []
tiles_from (suc most) shapes start (byte ∷ bytes) =
    let tile = first_tile shapes start (byte ∷ bytes) in
    tile ∷ tiles_from most shapes (start + length (spelling tile)) (drop (length (spelling tile)) (byte ∷ bytes))

-- the tiles of a block's body; they are its tiling where it has one
abbrev pub tiles_of : List Shape → List ℕ → List Tile
tiles_of shapes block = tiles_from (length block) shapes 16 (drop 16 block)

-- the cell that begins at this offset of a page
unfoldable pub cell_among : ℕ → List Tile → Option Cell
cell_among offset [] = None
cell_among offset (Hole at len ∷ tiles) = cell_among offset tiles
cell_among offset (Seg at cell ∷ tiles) = if at == offset then Some cell else cell_among offset tiles
