-- A side beside the shelf that holds its pages, and what its calls make of its cells.
use Rattle.std.specs.Prelude.{◌≡◌, ℕ, zero, suc, ◌+◌, ◌<◌, true, List, [], length, Option, Some, IsSome, slice_get, Result, OnOk, OnErr, IsErrOf}
use Rattle.hal_base.specs.declared.outcome.PageFault.{PageFault}
use Rattle.hal_base.specs.declared.outcome.PageFault.TheVariants.{NoRoom}
use Rattle.hal_base.specs.declared.pages.SetId.{SetId}
use Rattle.hal_base.specs.declared.place.Shape.{Shape}
use Rattle.hal_base.specs.ShelfCalls.{ShelfView, SameShelf, OnlyChanges}
use Rattle.segment_blocks.specs.declared.tile.Cell.{Cell}
use Rattle.segment_blocks.specs.declared.tile.Tile.{Tile}
use Rattle.free_space.specs.declared.listing.PlacedCell.{PlacedCell}
use Rattle.free_space.specs.declared.side.SideCells.{SideCells}
use Rattle.free_space.specs.declared.store.CellStore.{CellStore}
use Rattle.free_space.specs.Changes.{Rewrites, GivesBack}
use Rattle.free_space.specs.Listing.{ListsPage}
use Rattle.free_space.specs.Map.{layout_of, Adds, Alters, Drops}
use Rattle.free_space.specs.Opening.{FirstBreaksAt}
use Rattle.free_space.specs.Placing.{length_of, opened_pages, grown, NoHoleFits, NoPlace, Places, Appends}
use Rattle.free_space.specs.Store.{AreTiled, StandsFor, Becomes, Writes, Grows, added}
use Rattle.free_space.specs.Side.{IsFirst, lettered, place_at, are_letters, place_of, side_cell}

-- the store is open on the letter at a place
pub record IsLetter (side : SideCells) (place : ℕ) (store : CellStore) (shelf : ShelfView) : Type 0 where
  pub set : store.set ≡ lettered side.first place
  pub shapes : store.shapes ≡ side.shapes
  pub stands : StandsFor store shelf

-- The side is open: it has a store for each of the ten letters, and each stands for its data set as the shelf has it. It is a
-- fact with one proof (StandsForSide-prop), so that a type can keep it.
pub record StandsForSide (side : SideCells) (shelf : ShelfView) : Type 0 where
  pub first : IsFirst side.first
  pub letters : are_letters side.letters ≡ true
  pub as_many : length side.letters ≡ length side.shapes
  pub ten : length side.stores.items ≡ 10
  pub each : (place : ℕ) (store : CellStore) → slice_get side.stores.items place ≡ Some store → IsLetter side place store shelf

-- the side has the data sets and the types that it had, and is open
pub record StaysOpenOn (before now : SideCells) (shelf : ShelfView) : Type 0 where
  pub first : now.first ≡ before.first
  pub letters : now.letters ≡ before.letters
  pub shapes : now.shapes ≡ before.shapes
  pub stands : StandsForSide now shelf

-- the cells of a side by their addresses, as the shelf has them
abbrev pub cells_of : SideCells → ShelfView → ℕ → Option Cell
cells_of side shelf = side_cell side.first side.shapes shelf

-- the pages are told: a shelf tells those of all data sets, or those of none
abbrev pub IsTold : SideCells → ShelfView → Type 0
IsTold side shelf = IsSome (shelf.pages side.first)

-- where the pages are told, this is what stands at the address, a cell or none
abbrev pub Finds : SideCells → ShelfView → ℕ → Option Cell → Type 0
Finds side shelf at found = IsTold side shelf → cells_of side shelf at ≡ found

-- where the pages are told, some cell with this property stands at the address
abbrev pub Holds : SideCells → ShelfView → ℕ → (Cell → Type 0) → Type 0
Holds side shelf at P = IsTold side shelf → (cell : Cell) × (cells_of side shelf at ≡ Some cell) × P cell

-- where the pages are told, they are told still, and the cells have changed so
abbrev pub Turns : SideCells → SideCells → ShelfView → ShelfView → ((ℕ → Option Cell) → (ℕ → Option Cell) → Type 0) → Type 0
Turns before now old new Leads = IsTold before old → IsTold now new × Leads (cells_of before old) (cells_of now new)

-- at each address stands what stood there
abbrev pub SameCells : (ℕ → Option Cell) → (ℕ → Option Cell) → Type 0
SameCells old new = (at : ℕ) → new at ≡ old at

-- the data set of an address, and that of a cell's type
abbrev pub set_at : SideCells → ℕ → SetId
set_at side at = lettered side.first (place_at at)

abbrev pub set_of : SideCells → Cell → SetId
set_of side cell = lettered side.first (place_of side.letters cell.code)

-- a call that changes no data set but that of an address; and one that keeps the heads of its pages too, and reads at most so many
abbrev pub OnlyChangesAt : SideCells → ℕ → Type 0 → Type 0 → ShelfView → ShelfView → Type 0
OnlyChangesAt side at steady failed old new = OnlyChanges (set_at side at) steady failed old new

abbrev pub WritesAt : ℕ → SideCells → ℕ → Type 0 → Type 0 → ShelfView → ShelfView → Type 0
WritesAt most side at steady failed old new = Writes most (set_at side at) steady failed old new

-- the same of the data set of a cell's type, which gets at most so many pages more
abbrev pub GrowsFor : ℕ → ℕ → SideCells → Cell → Type 0 → Type 0 → ShelfView → ShelfView → Type 0
GrowsFor more most side cell steady failed old new = Grows more most (set_of side cell) steady failed old new

-- how many pages the data set of a cell's type has got
abbrev pub added_for : SideCells → Cell → ShelfView → ShelfView → ℕ
added_for side cell old new = added (set_of side cell) old new

-- so of the tiles of a data set, where its pages are told
abbrev pub Lays : List Shape → SetId → ShelfView → ShelfView → (List (List Tile) → List (List Tile) → Type 0) → Type 0
Lays shapes set old new Leads = (pages : List (List ℕ)) → old.pages set ≡ Some pages → Becomes set shapes pages (new.pages set) Leads

-- the answer of a call that gives the cell at an address another value
pub record AltersCell (result : Result Unit PageFault) (side : SideCells) (at : ℕ) (change : Cell → Cell) (old new : ShelfView) : Type 0 where
  pub altered : OnOk result (Turns side side old new (Alters at change))
  pub tiles : OnOk result (Lays side.shapes (set_at side at) old new (Rewrites (set_at side at) at change))
  pub unchanged : OnErr result (SameShelf old new)
  pub room : IsErrOf result NoRoom → ⊥

-- the answer of a call that makes a hole of the cell at an address
pub record DropsCell (result : Result Unit PageFault) (before now : SideCells) (at : ℕ) (old new : ShelfView) : Type 0 where
  pub dropped : OnOk result (Turns before now old new (Drops at))
  pub tiles : OnOk result (Lays before.shapes (set_at before at) old new (GivesBack (set_at before at) at))
  pub unchanged : OnErr result (SameShelf old new)
  pub room : IsErrOf result NoRoom → ⊥

-- a call that didn't store its cell: each cell stands where it stood, and no more than empty pages came
pub record KeepsCells (before now : SideCells) (cell : Cell) (old new : ShelfView) : Type 0 where
  pub cells : Turns before now old new SameCells
  pub tiles : Lays before.shapes (set_of before cell) old new (λ layout later. later ≡ grown (added_for before cell old new) layout)

-- the cell came to the address, in the data set of its type's letter, where it has the lowest hole in which it has place
pub record PlacesCell (before now : SideCells) (cell : Cell) (old new : ShelfView) (at : ℕ) : Type 0 where
  pub letter : IsTold before old → place_at at ≡ place_of before.letters cell.code
  pub adds : Turns before now old new (Adds at cell)
  pub places : Lays before.shapes (set_of before cell) old new (Places (set_of before cell) cell (added_for before cell old new) at)

-- the cell came to the address, in the data set of its type's letter, past all cells there, by the rule of FRSPC
pub record AppendsCell (before now : SideCells) (cell : Cell) (fbff fspf : ℕ) (old new : ShelfView) (at : ℕ) : Type 0 where
  pub letter : IsTold before old → place_at at ≡ place_of before.letters cell.code
  pub adds : Turns before now old new (Adds at cell)
  pub above : IsTold before old → (other : ℕ) (standing : Cell) → cells_of before old other ≡ Some standing → place_at other ≡ place_at at → other < at
  pub appends : Lays before.shapes (set_of before cell) old new (Appends (set_of before cell) cell fbff fspf (added_for before cell old new) at)

-- so of the tiles of a cell's data set, where the pages are told
abbrev pub IsSaidOf : SideCells → Cell → ShelfView → (List (List Tile) → Type 0) → Type 0
IsSaidOf side cell shelf P = (pages : List (List ℕ)) → shelf.pages (set_of side cell) ≡ Some pages → P (layout_of side.shapes pages)

-- how many pages FRSPC's rule opens for a cell's data set
abbrev pub opened_for : SideCells → Cell → ℕ → ShelfView → ℕ
opened_for side cell fbff shelf = opened_pages fbff (length (shelf.places (set_of side cell)))

-- NoRoom came: no hole of the cell's data set has place for it, and no block is free
pub record HasNoRoom (side : SideCells) (cell : Cell) (old new : ShelfView) : Type 0 where
  pub none_free : old.free ≡ []
  pub same : SameShelf old new
  pub no_hole : IsSaidOf side cell old (NoHoleFits (length_of cell))

-- so of a cell that was to be appended: fewer blocks are free than the rule opens pages
pub record HasNoRoomBehind (side : SideCells) (cell : Cell) (fbff fspf : ℕ) (old : ShelfView) : Type 0 where
  pub few_free : length old.free < opened_for side cell fbff old
  pub no_place : IsSaidOf side cell old (NoPlace fbff fspf (length_of cell))

-- the side was opened on these data sets and types
pub record IsOpenedOn (first : SetId) (letters : List ℕ) (shapes : List Shape) (shelf : ShelfView) (side : SideCells) : Type 0 where
  pub set : side.first ≡ first
  pub letters_are : side.letters ≡ letters
  pub shapes_are : side.shapes ≡ shapes
  pub stands : StandsForSide side shelf

-- how many pages the letters up to a place have
unfoldable pub pages_upto : SetId → ShelfView → ℕ → ℕ
pages_upto first shelf zero = 0
pages_upto first shelf (suc place) = pages_upto first shelf place + length (shelf.places (lettered first place))

abbrev pub side_pages : SetId → ShelfView → ℕ
side_pages first shelf = pages_upto first shelf 10

-- at this offset of page n of some letter no tile begins; the letters before it, and the tiles before it, are well made
pub record SideBreaksAt (first : SetId) (shapes : List Shape) (shelf : ShelfView) (n offset : ℕ) : Type 0 where
  pub place : ℕ
  pub below : place < 10
  pub here : (pages : List (List ℕ)) → shelf.pages (lettered first place) ≡ Some pages → FirstBreaksAt shapes pages n offset
  pub before : (other : ℕ) (pages : List (List ℕ)) → other < place → shelf.pages (lettered first other) ≡ Some pages → AreTiled shapes pages

-- where the pages are told, these are the cells of a page of the letter at a place
abbrev pub Lists : SideCells → ShelfView → ℕ → ℕ → List PlacedCell → Type 0
Lists side shelf place n list = ListsPage (lettered side.first place) side.shapes shelf n list
