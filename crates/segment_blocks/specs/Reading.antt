-- What the reader of a block finds at the front of bytes. No public clause speaks of these words.
use Rattle.std.specs.Prelude.{◌≡◌, ℕ, zero, suc, ◌+◌, ◌-◌, ◌*◌, ◌≤◌, ◌==◌, Bool, false, List, [], ◌∷◌, ◌++◌, length, take, drop, replicate, slice_get, slice_index, slice_range, Some}
use Rattle.std.specs.Int.{w16, w32, from_be_bytes}
use Rattle.hal_base.specs.declared.place.Shape.{Shape}
use Rattle.segment_blocks.specs.declared.tile.Cell.{Cell}
use Rattle.segment_blocks.specs.declared.tile.Tile.{Tile}
use Rattle.segment_blocks.specs.declared.tile.Tile.TheVariants.{Hole, Seg}
use Rattle.segment_blocks.specs.declared.head.Head.{Head}
use Rattle.segment_blocks.specs.declared.head.Head.TheVariants.{Hole as AHole, Seg as ASeg}
use Rattle.segment_blocks.specs.Tiling.{IsHole, IsTileAt, used_of, cell_length, spelling}

abbrev pub number16 : ℕ → List ℕ → ℕ
number16 at bytes = from_be_bytes w16 (take 2 (drop at bytes))

abbrev pub number32 : ℕ → List ℕ → ℕ
number32 at bytes = from_be_bytes w32 (take 4 (drop at bytes))

pub record HasZeros (bytes : List ℕ) (start end : ℕ) : Type 0 where
  pub room : end ≤ length bytes
  pub zeros : slice_range bytes start end ≡ replicate (end - start) 0

pub record BeginsWithHole (bytes : List ℕ) : Type 0 where
  pub mark : slice_index bytes 0 ≡ 0
  pub blank : slice_index bytes 1 ≡ 0
  pub hole : IsHole (number16 2 bytes)
  pub zeros : HasZeros bytes 4 (number16 2 bytes)

-- the length of this shape, and zeros behind its bytes
pub record HasShape (shape : Shape) (bytes : List ℕ) : Type 0 where
  pub len : number16 2 bytes ≡ cell_length shape
  pub zeros : HasZeros bytes (used_of shape) (cell_length shape)

-- a cell of a type of this shape
pub record BeginsWithCell (shapes : List Shape) (bytes : List ℕ) (shape : Shape) : Type 0 where
  pub marked : 1 ≤ slice_index bytes 0
  pub mark : slice_index bytes 0 ≤ 2
  pub coded : 1 ≤ slice_index bytes 1
  pub typed : slice_get shapes (slice_index bytes 1 - 1) ≡ Some shape
  pub shaped : HasShape shape bytes

-- so many addresses, one after the other
abbrev pub addresses_in : ℕ → List ℕ → List ℕ
addresses_in zero bytes = []
addresses_in (suc count) bytes = number32 0 bytes ∷ addresses_in count (drop 4 bytes)

-- the cell that the bytes are, where its shape is known
abbrev pub cell_in : Shape → List ℕ → Cell
cell_in shape bytes = record {
  copied = slice_index bytes 0 == 2;
  code = slice_index bytes 1;
  name = record { addr = number32 4 bytes; part = number16 8 bytes; number = number16 10 bytes };
  twin = number32 12 bytes;
  children = addresses_in shape.children (drop 16 bytes);
  content = take shape.bytes (drop (16 + 4 * shape.children) bytes);
}

-- the tile begins the bytes, which stand at `start` of a block
pub record BeginsWith (shapes : List Shape) (start : ℕ) (after_hole : Bool) (bytes : List ℕ) (tile : Tile) : Type 0 where
  pub placed : IsTileAt shapes start after_hole tile
  pub front : bytes ≡ spelling tile ++ drop (length (spelling tile)) bytes

-- a tile of this kind begins the bytes
abbrev pub HasHead : List Shape → Bool → List ℕ → Head → Type 0
HasHead shapes after_hole bytes AHole = (after_hole ≡ false) × BeginsWithHole bytes
HasHead shapes after_hole bytes (ASeg shape) = BeginsWithCell shapes bytes shape

-- which it is
abbrev pub tile_of : Head → ℕ → List ℕ → Tile
tile_of AHole at bytes = Hole at (number16 2 bytes)
tile_of (ASeg shape) at bytes = Seg at (cell_in shape bytes)
