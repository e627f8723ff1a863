-- Where a new cell goes.
use Rattle.std.specs.Prelude.{◌≡◌, ℕ, ◌+◌, ◌-◌, ◌*◌, ◌/◌, ◌%◌, ◌<◌, ◌≤◌, ◌==◌, ◌&&◌, not, Bool, false, IsTrue, if◌then◌else◌, List, [], ◌∷◌, ◌++◌, length, replicate, slice_get, Some}
use Rattle.hal_base.specs.declared.pages.SetId.{SetId}
use Rattle.segment_blocks.specs.declared.tile.Cell.{Cell}
use Rattle.segment_blocks.specs.declared.tile.Tile.{Tile}
use Rattle.segment_blocks.specs.declared.tile.Tile.TheVariants.{Hole, Seg}
use Rattle.segment_blocks.specs.Tiling.{cell_length, shape_of}
use Rattle.segment_blocks.specs.declared.space.Space.{Space}
use Rattle.free_space.specs.Address.{address}
use Rattle.segment_blocks.specs.Space.{largest_hole, free_bytes, last_hole, AreHoles}
use Rattle.segment_blocks.specs.Space.{left_over}
use Rattle.free_space.specs.Changes.{Replaces}
use Rattle.free_space.specs.Map.{Adds, cell_at}

abbrev pub length_of : Cell → ℕ
length_of cell = cell_length (shape_of cell)

-- with so many new pages behind the others, each of them one hole
abbrev pub grown : ℕ → List (List Tile) → List (List Tile)
grown count layout = layout ++ replicate count (Hole 16 4080 ∷ [])

-- in page n the cell takes the begin of a hole
pub record TakesHole (set : SetId) (cell : Cell) (at n : ℕ) (before : List Tile) (room : ℕ) (after : List Tile) (old new : List (List Tile)) : Type 0 where
  pub offset : ℕ
  pub address : at ≡ address set n offset
  pub fits : length_of cell ≤ room
  pub replaced : Replaces old new n before (Hole offset room ∷ []) (Seg offset cell ∷ left_over (offset + length_of cell) (room - length_of cell)) after
  pub adds : Adds at cell (cell_at set old) (cell_at set new)

-- no page has a hole in which so many bytes have place
abbrev pub NoHoleFits : ℕ → List (List Tile) → Type 0
NoHoleFits len layout = (n : ℕ) (tiles : List Tile) → slice_get layout n ≡ Some tiles → largest_hole tiles < len

-- the cell takes the lowest hole in which it has place, in a new page only where none is in the others
pub record Places (set : SetId) (cell : Cell) (count at : ℕ) (old new : List (List Tile)) : Type 0 where
  pub n : ℕ
  pub before : List Tile
  pub room : ℕ
  pub after : List Tile
  pub takes : TakesHole set cell at n before room after (grown count old) new
  pub lower_pages : (k : ℕ) (tiles : List Tile) → k < n → slice_get (grown count old) k ≡ Some tiles → largest_hole tiles < length_of cell
  pub lower_holes : largest_hole before < length_of cell
  pub needed : 0 < count → NoHoleFits (length_of cell) old
  pub adds : Adds at cell (cell_at set old) (cell_at set new)

-- FRSPC, as IMS has it: fbff leaves each page empty whose number, from 1, is a multiple of it
abbrev pub is_due : ℕ → ℕ → Bool
is_due fbff n = not (fbff == 0) && ((n + 1) % fbff == 0)

-- page n is left empty: it is due, and no call has put a cell there
abbrev pub IsLeftEmpty : ℕ → ℕ → List Tile → Type 0
IsLeftEmpty fbff n tiles = IsTrue (is_due fbff n) × AreHoles tiles

-- the last page that isn't left empty
pub record IsLastPage (fbff : ℕ) (layout : List (List Tile)) (n : ℕ) (tiles : List Tile) : Type 0 where
  pub page : slice_get layout n ≡ Some tiles
  pub used : IsLeftEmpty fbff n tiles → ⊥
  pub behind : (k : ℕ) (others : List Tile) → n < k → slice_get layout k ≡ Some others → IsLeftEmpty fbff k others

-- so many bytes have place past the last cell, and fspf in a hundred of the page's bytes stay free
pub record HasPlace (fspf len : ℕ) (tiles : List Tile) : Type 0 where
  pub fits : len ≤ last_hole tiles
  pub enough : 4080 * fspf / 100 + len ≤ free_bytes tiles

-- the last page that isn't left empty has no place, or there is none
abbrev pub NoPlace : ℕ → ℕ → ℕ → List (List Tile) → Type 0
NoPlace fbff fspf len layout = (n : ℕ) (tiles : List Tile) → IsLastPage fbff layout n tiles → HasPlace fspf len tiles → ⊥

-- how many pages a set of so many opens, so that the last isn't due
abbrev pub opened_pages : ℕ → ℕ → ℕ
opened_pages fbff count = if is_due fbff count then 2 else 1

-- The cell goes past the last cell of the last page that isn't left empty, to an address above all others. Where that
-- page has no place, as many pages are opened as the rule says, and the last of them takes the cell, whatever fspf is.
pub record Appends (set : SetId) (cell : Cell) (fbff fspf count at : ℕ) (old new : List (List Tile)) : Type 0 where
  pub n : ℕ
  pub before : List Tile
  pub tiles : List Tile
  pub room : ℕ
  pub takes : TakesHole set cell at n before room [] (grown count old) new
  pub last : IsLastPage fbff (grown count old) n tiles
  pub place : count ≡ 0 → HasPlace fspf (length_of cell) tiles
  pub needed : 0 < count → NoPlace fbff fspf (length_of cell) old
  pub opened : 0 < count → (count ≡ opened_pages fbff (length old)) × (n + 1 ≡ length old + count)
  pub adds : Adds at cell (cell_at set old) (cell_at set new)
  pub above : (other : ℕ) (standing : Cell) → cell_at set old other ≡ Some standing → other < at

-- in page n the cell takes the lowest hole in which it has place
pub record PlacesIn (set : SetId) (cell : Cell) (at n : ℕ) (old new : List (List Tile)) : Type 0 where
  pub before : List Tile
  pub room : ℕ
  pub after : List Tile
  pub takes : TakesHole set cell at n before room after old new
  pub lower_holes : largest_hole before < length_of cell

-- in page n it takes the hole behind the last cell
pub record AppendsIn (set : SetId) (cell : Cell) (at n : ℕ) (old new : List (List Tile)) : Type 0 where
  pub before : List Tile
  pub room : ℕ
  pub takes : TakesHole set cell at n before room [] old new

-- of the numbers of pages, the first whose largest hole has place for so many bytes
pub record IsFirstWith (spaces : List Space) (len n : ℕ) : Type 0 where
  pub below : n < length spaces
  pub before : (k : ℕ) (space : Space) → k < n → slice_get spaces k ≡ Some space → space.largest < len
  pub here : (space : Space) → slice_get spaces n ≡ Some space → len ≤ space.largest

-- the same by the numbers of the pages
pub record IsLeft (fbff n : ℕ) (space : Space) : Type 0 where
  pub empty : space.cells ≡ false
  pub due : IsTrue (is_due fbff n)

pub record IsLastOpen (fbff : ℕ) (spaces : List Space) (n : ℕ) : Type 0 where
  pub below : n < length spaces
  pub used : (space : Space) → slice_get spaces n ≡ Some space → IsLeft fbff n space → ⊥
  pub behind : (k : ℕ) (space : Space) → n < k → slice_get spaces k ≡ Some space → IsLeft fbff k space

pub record HasRoom (fspf len : ℕ) (space : Space) : Type 0 where
  pub fits : len ≤ space.last
  pub enough : 4080 * fspf / 100 + len ≤ space.free
