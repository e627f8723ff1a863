-- The body of a data block of cells, bytes 16 to 4,095, as a list of tiles, and the bytes that tiles spell.
-- Numbers are big-endian.
use Rattle.std.specs.Prelude.{◌≡◌, ℕ, ◌+◌, ◌-◌, ◌*◌, ◌/◌, ◌%◌, ◌^◌, ◌<◌, ◌≤◌, Bool, true, false, if◌then◌else◌, List, [], ◌∷◌, ◌++◌, length, take, drop, replicate, Some, slice_get}
use Rattle.std.specs.List.{flat_map, AllByRecursion}
use Rattle.std.specs.Int.{w16, w32, to_be_bytes}
use Rattle.hal_base.specs.declared.place.Shape.{Shape}
use Rattle.segment_blocks.specs.declared.tile.Cell.{Cell}
use Rattle.segment_blocks.specs.declared.tile.Tile.{Tile}
use Rattle.segment_blocks.specs.declared.tile.Tile.TheVariants.{Hole, Seg}

-- a cell's bytes without the padding: 16, four for each child type, and the content
abbrev pub used_of : Shape → ℕ
used_of shape = 16 + 4 * shape.children + shape.bytes

-- a cell's length: those bytes, rounded up to a multiple of 4
abbrev pub cell_length : Shape → ℕ
cell_length shape = (used_of shape + 3) / 4 * 4

-- the shape that a cell has
abbrev pub shape_of : Cell → Shape
shape_of cell = record { children = length cell.children; bytes = length cell.content }

-- what stands in front of the addresses of children: the mark, 2 where the segment was copied; the code;
-- the length; the name, of address, partition and reorganization number; the twin
abbrev pub spelled_head : Cell → ℕ → List ℕ
spelled_head cell len =
    (if cell.copied then 2 else 1) ∷ cell.code ∷ to_be_bytes w16 len
    ++ to_be_bytes w32 cell.name.addr ++ to_be_bytes w16 cell.name.part ++ to_be_bytes w16 cell.name.number
    ++ to_be_bytes w32 cell.twin

-- the head, the first children, the content, and zeros up to the length
unfoldable pub spelled_cell : Cell → List ℕ
spelled_cell cell =
    spelled_head cell (cell_length (shape_of cell)) ++ flat_map (to_be_bytes w32) cell.children ++ cell.content
    ++ replicate (cell_length (shape_of cell) - used_of (shape_of cell)) 0

-- two zeros, the length, and zeros
unfoldable pub spelled_hole : ℕ → List ℕ
spelled_hole len = 0 ∷ 0 ∷ to_be_bytes w16 len ++ replicate (len - 4) 0

abbrev pub spelling : Tile → List ℕ
spelling (Hole at len) = spelled_hole len
spelling (Seg at cell) = spelled_cell cell

abbrev pub spelled : List Tile → List ℕ
spelled tiles = flat_map spelling tiles

-- the numbers have the bytes that they are spelled in
pub record Fits (cell : Cell) : Type 0 where
  pub code : cell.code < 2 ^ 8
  pub addr : cell.name.addr < 2 ^ 32
  pub part : cell.name.part < 2 ^ 16
  pub number : cell.name.number < 2 ^ 16
  pub twin : cell.twin < 2 ^ 32
  pub children : AllByRecursion (λ child. child < 2 ^ 32) cell.children

-- a cell of one of these types: its code, from 1, is a type's, and it has the type's shape
pub record IsCell (shapes : List Shape) (cell : Cell) : Type 0 where
  pub coded : 0 < cell.code
  pub typed : slice_get shapes (cell.code - 1) ≡ Some (shape_of cell)
  pub fits : Fits cell

-- a hole's length is a multiple of 4, and at least 4
pub record IsHole (len : ℕ) : Type 0 where
  pub least : 4 ≤ len
  pub whole : len % 4 ≡ 0
  pub fits : len < 2 ^ 16

-- a tile begins at `start`, and not a hole where one ends
abbrev pub IsTileAt : List Shape → ℕ → Bool → Tile → Type 0
IsTileAt shapes start after_hole (Hole at len) = (at ≡ start) × (after_hole ≡ false) × IsHole len
IsTileAt shapes start after_hole (Seg at cell) = (at ≡ start) × IsCell shapes cell

abbrev pub is_hole : Tile → Bool
is_hole (Hole at len) = true
is_hole (Seg at cell) = false

-- one tile begins where the tile before it ends, and no two holes touch
abbrev pub AreTilesFrom : List Shape → ℕ → Bool → List Tile → Type 0
AreTilesFrom shapes start after_hole [] = Unit {0}
AreTilesFrom shapes start after_hole (tile ∷ tiles) =
    IsTileAt shapes start after_hole tile × AreTilesFrom shapes (start + length (spelling tile)) (is_hole tile) tiles

-- tiles that begin a body, behind the block's header of 16 bytes
abbrev pub AreTiles : List Shape → List Tile → Type 0
AreTiles shapes tiles = AreTilesFrom shapes 16 false tiles

-- the tiles are the body of the block, all of it
pub record IsTiling (shapes : List Shape) (block : List ℕ) (tiles : List Tile) : Type 0 where
  pub tiled : AreTiles shapes tiles
  pub whole : drop 16 block ≡ spelled tiles

-- the tiles are a front of the body of the block, up to `end`
pub record LeadsTo (shapes : List Shape) (block : List ℕ) (tiles : List Tile) (end : ℕ) : Type 0 where
  pub tiled : AreTiles shapes tiles
  pub front : drop 16 block ≡ spelled tiles ++ drop end block
  pub ends : end ≡ 16 + length (spelled tiles)

-- tiles lead to the offset, which lies in the block, and no tile begins there
pub record StopsAt (shapes : List Shape) (block : List ℕ) (offset : ℕ) : Type 0 where
  pub tiles : List Tile
  pub before : LeadsTo shapes block tiles offset
  pub within : offset < length block
  pub none : (next : Tile) (end : ℕ) → LeadsTo shapes block (tiles ++ next ∷ []) end → ⊥

-- these bytes stand from `at` on, and every other byte is as it was
abbrev pub Writes : List ℕ → List ℕ → ℕ → List ℕ → Type 0
Writes old new at bytes = new ≡ take at old ++ bytes ++ drop (at + length bytes) old

-- these tiles stand in the body before `at`, and those from `end` on
pub record StandAround (block : List ℕ) (at end : ℕ) (front rest : List Tile) : Type 0 where
  pub before : drop 16 (take at block) ≡ spelled front
  pub after : drop end block ≡ spelled rest
