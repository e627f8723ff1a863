-- A side of records beside the shelf that holds its pages.
use Rattle.std.specs.Prelude.{◌≡◌, ◌⊎◌, ℕ, ◌+◌, ◌<◌, false, List, length, Option, None, Some, IsSome, IfSome}
use Rattle.hal_base.specs.declared.pages.SetId.{SetId}
use Rattle.hal_base.specs.ShelfCalls.{ShelfView}
use Rattle.segment_blocks.specs.declared.tile.Cell.{Cell}
use Rattle.free_space.specs.Side.{lettered, side_cell}
use Rattle.free_space.specs.SideCalls.{StandsForSide, IsTold, Holds, SideBreaksAt, cells_of, side_pages}
use Rattle.free_space.specs.Store.{AreTiled}
use Rattle.keyed_sets.specs.Calls.{IsOpened}
use Rattle.keyed_sets.specs.Rule.{KeepsRule, BreaksAt}
use Rattle.hal_schema.specs.declared.schema.Schema.{Schema}
use Rattle.record_walk.specs.Tree.{Chains}
use Rattle.record_walk.specs.Listing.{Placed, list_in}
use Rattle.record_walk.specs.Side.{RootRow, IsSideOf, IsSide}
use Rattle.record_tree.specs.declared.records.Records.{Records}
use Rattle.record_tree.specs.Sides.{part_number, root_set, root_shape, root_rows, letters_of, shapes_of}

-- the cells of the side and the rows of its root set, none where the pages aren't told
abbrev pub cells_seen : Records → ShelfView → ℕ → Option Cell
cells_seen records shelf = cells_of records.cells shelf

abbrev pub rows_seen : Records → ShelfView → List RootRow
rows_seen records shelf = root_rows records.roots.shape (shelf.pages records.roots.set)

-- it has the data sets of its side, and of these the letters and lengths that the definition says
pub record IsOfSide (records : Records) : Type 0 where
  pub part : records.first.part ≡ part_number records.schema records.place
  pub first : records.cells.first ≡ records.first
  pub letters : records.cells.letters ≡ letters_of records.schema
  pub shapes : records.cells.shapes ≡ shapes_of records.schema
  pub roots : records.roots.set ≡ root_set records.first
  pub shape : records.roots.shape ≡ root_shape records.schema
  -- the partition is one of PHIDAM
  pub kind : records.schema.phdam ≡ false

-- The side is open: so are its cells and its root set, and where the pages are told these are a side of the partition (`IsSide`). It is
-- a fact with one proof (StandsForRecords-prop), so that a type can keep it.
pub record StandsForRecords (records : Records) (shelf : ShelfView) : Type 0 where
  pub of : IsOfSide records
  pub cells : StandsForSide records.cells shelf
  pub roots : IsOpened records.roots shelf
  pub side : IsTold records.cells shelf → IsSide records.schema records.place (cells_seen records shelf) (rows_seen records shelf)

-- it is the side that it was, and is open
pub record StaysRecords (before now : Records) (shelf : ShelfView) : Type 0 where
  pub schema : now.schema ≡ before.schema
  pub place : now.place ≡ before.place
  pub first : now.first ≡ before.first
  pub stands : StandsForRecords now shelf

-- the pages are told, and these trees hang in them from the rows of the root set
pub record Walks (records : Records) (shelf : ShelfView) (trees : Chains) : Type 0 where
  pub told : IsTold records.cells shelf
  pub side : IsSideOf records.schema records.place (cells_seen records shelf) (rows_seen records shelf) trees

-- where the pages are told, this is so of the side's list: its rows in hierarchic sequence, each with its home
abbrev pub OfList : Records → ShelfView → (List Placed → Type 0) → Type 0
OfList records shelf P = (trees : Chains) → Walks records shelf trees → P (list_in None trees)

-- where the pages are told, the cell of a row stands at the address, and has this property
abbrev pub HoldsRow : Records → ShelfView → ℕ → (Cell → Type 0) → Type 0
HoldsRow records shelf at P = Holds records.cells shelf at (λ cell. (cell.copied ≡ false) × P cell)

-- the pages of a side are told and made as the format says: its letters' are tiled, and those of its root set are a set of rows (rule 3)
pub record IsWellMade (schema : Schema) (first : SetId) (shelf : ShelfView) : Type 0 where
  pub told : IsSome (shelf.pages first)
  pub tiled : (place : ℕ) (pages : List (List ℕ)) → place < 10 → shelf.pages (lettered first place) ≡ Some pages → AreTiled (shapes_of schema) pages
  pub rows : (pages : List (List ℕ)) → shelf.pages (root_set first) ≡ Some pages → KeepsRule (root_shape schema) pages

-- what a sound volume says of a side before it is opened: where its pages are well made, they are a side of the partition
abbrev pub KeepsSide : Schema → ℕ → SetId → ShelfView → Type 0
KeepsSide schema place first shelf =
    IsWellMade schema first shelf
    → IsSide schema place (side_cell first (shapes_of schema) shelf) (root_rows (root_shape schema) (shelf.pages (root_set first)))

-- and once it is open
pub record IsOpenedFor (schema : Schema) (place : ℕ) (first : SetId) (records : Records) (shelf : ShelfView) : Type 0 where
  pub schema_is : records.schema ≡ schema
  pub place_is : records.place ≡ place
  pub first_is : records.first ≡ first
  pub stands : StandsForRecords records shelf

-- all pages of a side
abbrev pub all_pages : SetId → ShelfView → ℕ
all_pages first shelf = side_pages first shelf + length (shelf.places (root_set first))

-- The first page that isn't well made: one of the first letter that has such a page, or else one of the root set.
pub record BreaksRoots (schema : Schema) (first : SetId) (shelf : ShelfView) (n offset : ℕ) : Type 0 where
  pub tiled : (place : ℕ) (pages : List (List ℕ)) → place < 10 → shelf.pages (lettered first place) ≡ Some pages → AreTiled (shapes_of schema) pages
  pub breaks : IfSome (shelf.pages (root_set first)) (λ pages. BreaksAt (root_shape schema) pages n offset)

abbrev pub BreaksSide : Schema → SetId → ShelfView → (n offset : ℕ) → Type 0
BreaksSide schema first shelf n offset = SideBreaksAt first (shapes_of schema) shelf n offset ⊎ BreaksRoots schema first shelf n offset
