-- A store of cells beside the shelf that holds its pages.
use Rattle.std.specs.Prelude.{◌≡◌, ℕ, ◌+◌, ◌-◌, ◌<◌, ◌≤◌, List, length, map, take, slice_get, slice_set, Option, Some}
use Rattle.std.specs.Option.{option_map}
use Rattle.hal_base.specs.declared.pages.SetId.{SetId}
use Rattle.hal_base.specs.declared.place.Shape.{Shape}
use Rattle.hal_base.specs.ShelfCalls.{ShelfView, GrownBy, OnlyChanges, OnlyGrows, SameHeads, KeepsHeads}
use Rattle.segment_blocks.specs.declared.tile.Cell.{Cell}
use Rattle.segment_blocks.specs.declared.tile.Tile.{Tile}
use Rattle.segment_blocks.specs.Tiling.{shape_of, IsTiling}
use Rattle.segment_blocks.specs.TilesOf.{tiles_of}
use Rattle.segment_blocks.specs.declared.space.Space.{Space}
use Rattle.free_space.specs.declared.store.CellStore.{CellStore}
use Rattle.segment_blocks.specs.Space.{space_of}
use Rattle.free_space.specs.Map.{layout_of, cell_at}
use Rattle.free_space.specs.Placing.{grown, Places, Appends}

-- each page's body is tiled
abbrev pub AreTiled : List Shape → List (List ℕ) → Type 0
AreTiled shapes pages = (n : ℕ) (page : List ℕ) → slice_get pages n ≡ Some page → IsTiling shapes page (tiles_of shapes page)

-- the numbers that a store keeps of each page are those of its tiles
pub record Knows (shapes : List Shape) (spaces : List Space) (pages : List (List ℕ)) : Type 0 where
  pub tiled : AreTiled shapes pages
  pub spaces_are : spaces ≡ map space_of (layout_of shapes pages)

-- The store stands for its data set as the shelf has it: it knows how many pages there are, and where they are told the
-- numbers of each. It is a fact with one proof (StandsFor-prop), so that a type can keep it.
pub record StandsFor (store : CellStore) (shelf : ShelfView) : Type 0 where
  pub many : length store.spaces.pages.items ≡ length (shelf.places store.set)
  pub told : (pages : List (List ℕ)) → shelf.pages store.set ≡ Some pages → Knows store.shapes store.spaces.pages.items pages

-- the store has the data set and the types that it had, and stands for that set
pub record StaysOpen (before now : CellStore) (shelf : ShelfView) : Type 0 where
  pub set : now.set ≡ before.set
  pub shapes : now.shapes ≡ before.shapes
  pub stands : StandsFor now shelf

-- a page has the first sixteen bytes of another
abbrev pub SameFront : List ℕ → List ℕ → Type 0
SameFront page now = take 16 now ≡ take 16 page

-- the pages are told still, each has the head that it had, and their tiles have changed so
pub record Becomes (set : SetId) (shapes : List Shape) (pages : List (List ℕ)) (told : Option (List (List ℕ))) (Leads : List (List Tile) → List (List Tile) → Type 0) : Type 0 where
  pub now : List (List ℕ)
  pub are : told ≡ Some now
  pub heads : SameHeads SameFront 1 set pages now
  pub more : length pages ≤ length now
  pub leads : Leads (layout_of shapes pages) (layout_of shapes now)

-- so where the pages of the store's set are told
abbrev pub Relays : CellStore → ShelfView → ShelfView → (List (List Tile) → List (List Tile) → Type 0) → Type 0
Relays store old new Leads = (pages : List (List ℕ)) → old.pages store.set ≡ Some pages → Becomes store.set store.shapes pages (new.pages store.set) Leads

-- how many pages a set has got
abbrev pub added : SetId → ShelfView → ShelfView → ℕ
added set old new = length (new.places set) - length (old.places set)

-- a cell was placed at the address, in a page of the set or in one that it has got
abbrev pub PlacesAt : CellStore → Cell → ShelfView → ShelfView → ℕ → Type 0
PlacesAt store cell old new at = Relays store old new (Places store.set cell (added store.set old new) at)

-- a cell was appended at the address
abbrev pub AppendsAt : CellStore → Cell → ℕ → ℕ → ShelfView → ShelfView → ℕ → Type 0
AppendsAt store cell fbff fspf old new at = Relays store old new (Appends store.set cell fbff fspf (added store.set old new) at)

-- the set has got no more than empty pages
abbrev pub GetsEmpty : CellStore → ShelfView → ShelfView → Type 0
GetsEmpty store old new = Relays store old new (λ layout now. now ≡ grown (added store.set old new) layout)

-- a call that changes pages of one data set: each page keeps its head, and so many pages are read at most
pub record Writes (most : ℕ) (set : SetId) (steady failed : Type 0) (old new : ShelfView) : Type 0 where
  pub changes : OnlyChanges set steady failed old new
  pub heads : KeepsHeads SameFront 1 set old new
  pub few : new.fetches ≤ old.fetches + most

-- one that may add pages too, at most so many; each has the head of an empty page
pub record Grows (more most : ℕ) (set : SetId) (steady failed : Type 0) (old new : ShelfView) : Type 0 where
  pub changes : OnlyGrows (added set old new) set steady failed old new
  pub heads : KeepsHeads SameFront 1 set old new
  pub at_most : added set old new ≤ more
  pub few : new.fetches ≤ old.fetches + most

-- so of the layout, where the pages are told
abbrev pub IsSaid : CellStore → ShelfView → (List (List Tile) → Type 0) → Type 0
IsSaid store shelf P = (pages : List (List ℕ)) → shelf.pages store.set ≡ Some pages → P (layout_of store.shapes pages)

-- so many empty pages were added behind those of the set
pub record GrewBy (count : ℕ) (store : CellStore) (old new : ShelfView) : Type 0 where
  pub blocks : GrownBy count store.set old new
  pub tiles : Relays store old new (λ layout now. now ≡ grown count layout)

-- where the pages are told, some cell with this property stands at the address
abbrev pub HoldsAt : CellStore → ShelfView → ℕ → (Cell → Type 0) → Type 0
HoldsAt store shelf at P = (pages : List (List ℕ)) → shelf.pages store.set ≡ Some pages → (cell : Cell) × (cell_at store.set (layout_of store.shapes pages) at ≡ Some cell) × P cell

-- where the pages are told, this is what stands at the address, a cell or none
abbrev pub StandsAt : CellStore → ShelfView → ℕ → Option Cell → Type 0
StandsAt store shelf at found = (pages : List (List ℕ)) → shelf.pages store.set ≡ Some pages → cell_at store.set (layout_of store.shapes pages) at ≡ found

-- where the pages are told, page n is this block
abbrev pub IsPage : SetId → ℕ → List ℕ → ShelfView → Type 0
IsPage set n block shelf = (pages : List (List ℕ)) → shelf.pages set ≡ Some pages → slice_get pages n ≡ Some block

-- page n of a set has become this block
abbrev pub HasPut : SetId → ℕ → List ℕ → ShelfView → ShelfView → Type 0
HasPut set n block old new = new.pages set ≡ option_map (λ pages. slice_set pages n block) (old.pages set)

-- a cell that can be stored: its code is that of a type, whose shape it has
pub record IsTyped (shapes : List Shape) (cell : Cell) : Type 0 where
  pub coded : 0 < cell.code
  pub typed : slice_get shapes (cell.code - 1) ≡ Some (shape_of cell)
