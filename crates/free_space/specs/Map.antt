-- A data set as the tiles of its pages, and as a map from address to cell.
use Rattle.std.specs.Prelude.{◌≡◌, ◌≢◌, ℕ, ◌/◌, ◌^◌, ◌==◌, if◌then◌else◌, List, map, slice_get, Option, None, Some}
use Rattle.std.specs.Option.{option_map}
use Rattle.hal_base.specs.declared.place.Shape.{Shape}
use Rattle.hal_base.specs.declared.pages.SetId.{SetId}
use Rattle.segment_blocks.specs.declared.tile.Cell.{Cell}
use Rattle.segment_blocks.specs.declared.tile.Tile.{Tile}
use Rattle.segment_blocks.specs.TilesOf.{tiles_of, cell_among}
use Rattle.free_space.specs.Address.{letter_index, page_at, offset_at}

-- the layout of a data set: the tiles of its pages, page by page
abbrev pub layout_of : List Shape → List (List ℕ) → List (List Tile)
layout_of shapes pages = map (tiles_of shapes) pages

-- the cell at an offset of a page, where there is the page
abbrev pub cell_on : ℕ → Option (List Tile) → Option Cell
cell_on offset None = None
cell_on offset (Some tiles) = cell_among offset tiles

-- the cell at an address, if one stands there
unfoldable pub cell_at : SetId → List (List Tile) → ℕ → Option Cell
cell_at set layout at = if at / 2 ^ 28 == letter_index set.letter then cell_on (offset_at at) (slice_get layout (page_at at)) else None

-- at each other address stands what stood there
abbrev pub SameElsewhere : ℕ → (ℕ → Option Cell) → (ℕ → Option Cell) → Type 0
SameElsewhere at old new = (other : ℕ) → other ≢ at → new other ≡ old other

-- a cell came to an address at which none stood
pub record Adds (at : ℕ) (cell : Cell) (old new : ℕ → Option Cell) : Type 0 where
  pub free : old at ≡ None
  pub stands : new at ≡ Some cell
  pub elsewhere : SameElsewhere at old new

-- the cell at an address is another
pub record Alters (at : ℕ) (change : Cell → Cell) (old new : ℕ → Option Cell) : Type 0 where
  pub altered : new at ≡ option_map change (old at)
  pub elsewhere : SameElsewhere at old new

-- no cell stands at an address any more
pub record Drops (at : ℕ) (old new : ℕ → Option Cell) : Type 0 where
  pub gone : new at ≡ None
  pub elsewhere : SameElsewhere at old new
