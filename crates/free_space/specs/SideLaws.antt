-- What is so of every open side, as its callers use it.
use Rattle.std.specs.Prelude.{◌≡◌, ◌≢◌, ℕ, ◌+◌, ◌<◌, ◌≤◌, true, List, [], ◌∷◌, ◌++◌, length, All, Some}
use Rattle.hal_base.specs.declared.pages.SetId.{SetId}
use Rattle.hal_base.specs.ShelfCalls.{ShelfView, ChangedIn, GrownBy}
use Rattle.segment_blocks.specs.declared.tile.Cell.{Cell}
use Rattle.segment_blocks.specs.declared.tile.Tile.{Tile}
use Rattle.free_space.specs.declared.side.SideCells.{SideCells}
use Rattle.free_space.specs.Address.{address}
use Rattle.free_space.specs.Listing.{placed_among, placed_from, listed_at, rise_from}
use Rattle.free_space.specs.Map.{layout_of}
use Rattle.free_space.specs.Side.{lettered, place_at}
use Rattle.free_space.specs.SideCalls.{StandsForSide, IsTold, SameCells, cells_of}

-- the data set is none of the side's
abbrev pub IsApart : SideCells → SetId → Type 0
IsApart side set = (place : ℕ) → place < 10 → lettered side.first place ≡ set → ⊥

-- the side is open still, and its cells are as they were, told or not
pub record StaysBeside (side : SideCells) (old new : ShelfView) : Type 0 where
  pub stands : StandsForSide side new
  pub told : IsTold side old → IsTold side new
  pub cells : SameCells (cells_of side old) (cells_of side new)

-- calls that change pages of a data set that isn't the side's, or add pages to it
pub record OthersLeaveASide : Type 0 where
  pub changed : (side : SideCells) (set : SetId) (old new : ShelfView) → StandsForSide side old → IsApart side set → ChangedIn set old new → StaysBeside side old new
  pub grown : (side : SideCells) (count : ℕ) (set : SetId) (old new : ShelfView) → StandsForSide side old → IsApart side set → GrownBy count set old new → StaysBeside side old new

-- the address 0, which is none, has no cell
abbrev pub NoneAtZero : Type 0
NoneAtZero = (side : SideCells) (shelf : ShelfView) (at : ℕ) (cell : Cell) → StandsForSide side shelf → cells_of side shelf at ≡ Some cell → at ≢ 0

-- The lists of a letter's pages, one behind the other, have at each address of the letter the cell that stands there, and
-- their addresses rise.
pub record PagesListTheCells : Type 0 where
  pub listed : (side : SideCells) (shelf : ShelfView) (place : ℕ) (pages : List (List ℕ)) (at : ℕ) → StandsForSide side shelf → place < 10
      → shelf.pages (lettered side.first place) ≡ Some pages → All (λ page. length page ≡ 4096) pages → length pages ≤ 65536 → place_at at ≡ place
      → listed_at at (placed_from (lettered side.first place) 0 (layout_of side.shapes pages)) ≡ cells_of side shelf at
  pub rise : (side : SideCells) (shelf : ShelfView) (place : ℕ) (pages : List (List ℕ)) → StandsForSide side shelf → place < 10 → shelf.pages (lettered side.first place) ≡ Some pages
      → All (λ page. length page ≡ 4096) pages → rise_from (address (lettered side.first place) 0 0) (placed_from (lettered side.first place) 0 (layout_of side.shapes pages)) ≡ true
  pub one_more : (set : SetId) (n : ℕ) (layout : List (List Tile)) (tiles : List Tile)
      → placed_from set n (layout ++ tiles ∷ []) ≡ placed_from set n layout ++ placed_among set (n + length layout) tiles
