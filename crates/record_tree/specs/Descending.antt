-- Words of the private functions: the way down a span, and a pointer that is set past it.
use Rattle.std.specs.Prelude.{◌≡◌, ◌≢◌, ℕ, ◌+◌, ◌*◌, ◌<◌, ◌≤◌, false, List, [], ◌∷◌, ◌++◌, Option, None, Some, option_and_then, ⊤}
use Rattle.std.specs.List.{remove}
use Rattle.hal_base.specs.declared.pages.SetId.{SetId}
use Rattle.hal_base.specs.Pages.{SameSets}
use Rattle.hal_base.specs.ShelfCalls.{ShelfView, Keeps}
use Rattle.hal_schema.specs.declared.schema.Schema.{Schema}
use Rattle.segment_blocks.specs.declared.tile.Cell.{Cell}
use Rattle.free_space.specs.declared.side.SideCells.{SideCells}
use Rattle.free_space.specs.Map.{SameElsewhere}
use Rattle.free_space.specs.SideCalls.{StandsForSide, IsTold, cells_of}
use Rattle.free_space.specs.SideLaws.{IsApart}
use Rattle.keyed_sets.specs.Calls.{IsOpened}
use Rattle.record_walk.specs.Tree.{Twins, no_segment, segment, Chains, no_chain, chain, firsts_of, HangIn, times_in}
use Rattle.record_walk.specs.Changes.{stands_in}
use Rattle.record_walk.specs.Pointers.{Pointer, Behind, Below, Root}
use Rattle.record_walk.specs.Side.{RootRow, alone, seen}
use Rattle.record_walk.specs.SideChanges.{leads_in, IsInSide, SetsPointer}
use Rattle.record_tree.specs.declared.descent.Fate.{Fate}
use Rattle.record_tree.specs.declared.descent.Fate.TheVariants.{Hole, Marked}
use Rattle.record_tree.specs.declared.records.Records.{Records}
use Rattle.record_tree.specs.Cutting.{no_cell, marked}
use Rattle.record_tree.specs.Standing.{Walks, cells_seen, rows_seen}

abbrev pub fate_of : Fate → Cell → Option Cell
fate_of Hole cell = no_cell cell
fate_of Marked cell = marked cell

-- this became of the cell at an address, and at each other address stands what stood there
pub record EndsCell (fate : Cell → Option Cell) (at : ℕ) (old new : ℕ → Option Cell) : Type 0 where
  pub ended : new at ≡ option_and_then fate (old at)
  pub elsewhere : SameElsewhere at old new

-- and what the cell leads to was put off
pub record Meets (fate : Cell → Option Cell) (at : ℕ) (pending later : List ℕ) (old new : ℕ → Option Cell) : Type 0 where
  pub ends : EndsCell fate at old new
  pub put_off : (cell : Cell) → old at ≡ Some cell → later ≡ (pending ++ (alone cell).twin ∷ []) ++ cell.children

-- trees hang from the pending addresses, and meet no home twice
pub record Pend (cells : ℕ → Option Cell) (pending : List ℕ) (trees : Chains) : Type 0 where
  pub hang : HangIn (seen false cells) trees
  pub firsts : firsts_of trees ≡ pending
  pub once : (home : ℕ) → times_in home trees ≤ 1

abbrev pub CanPend : (ℕ → Option Cell) → List ℕ → Type 0
CanPend cells pending = (trees : Chains) × Pend cells pending trees

-- this became of all cells of the trees that hung from the pending addresses, and of no other
pub record EndsTrees (fate : Cell → Option Cell) (trees : Chains) (old new : ℕ → Option Cell) : Type 0 where
  pub ended : (home : ℕ) → 0 < times_in home trees → new home ≡ option_and_then fate (old home)
  pub elsewhere : (home : ℕ) → times_in home trees ≡ 0 → new home ≡ old home

abbrev pub EndsAll : (Cell → Option Cell) → List ℕ → (ℕ → Option Cell) → (ℕ → Option Cell) → Type 0
EndsAll fate pending old new = (trees : Chains) → Pend old pending trees → EndsTrees fate trees old new

-- these trees hang below the cell at an address
pub record HangsAt (cells : ℕ → Option Cell) (at : ℕ) (below : Chains) : Type 0 where
  pub cell : Cell
  pub stands : cells at ≡ Some cell
  pub uncopied : cell.copied ≡ false
  pub pend : Pend cells cell.children below
  pub apart : times_in at below ≡ 0

abbrev pub CanHangAt : (ℕ → Option Cell) → ℕ → Type 0
CanHangAt cells at = (below : Chains) × HangsAt cells at below

-- this became of the cell at an address and of all below it, and of no other
pub record EndsSpan (fate : Cell → Option Cell) (at : ℕ) (below : Chains) (old new : ℕ → Option Cell) : Type 0 where
  pub top : new at ≡ option_and_then fate (old at)
  pub ended : (home : ℕ) → 0 < times_in home below → new home ≡ option_and_then fate (old home)
  pub elsewhere : (home : ℕ) → home ≢ at → times_in home below ≡ 0 → new home ≡ old home

abbrev pub EndsSpanAt : (Cell → Option Cell) → ℕ → (ℕ → Option Cell) → (ℕ → Option Cell) → Type 0
EndsSpanAt fate at old new = (below : Chains) → HangsAt old at below → EndsSpan fate at below old new

-- how many segments trees have
abbrev mutual
  pub size : Twins → ℕ
  size no_segment = 0
  size (segment s below next) = 1 + (size_in below + size next)

  pub size_in : Chains → ℕ
  size_in no_chain = 0
  size_in (chain twins more) = size twins + size_in more

-- a page was read at most twice for each cell that hung from the pending addresses, and so for a cell and all below it
abbrev pub ReadsTwice : SideCells → List ℕ → ShelfView → ShelfView → Type 0
ReadsTwice cells pending old new = IsTold cells old → (trees : Chains) → Pend (cells_of cells old) pending trees → new.fetches ≤ old.fetches + 2 * size_in trees

abbrev pub ReadsSpanTwice : SideCells → ℕ → ShelfView → ShelfView → Type 0
ReadsSpanTwice cells at old new = IsTold cells old → (below : Chains) → HangsAt (cells_of cells old) at below → new.fetches ≤ old.fetches + (2 + 2 * size_in below)

-- a call that changes pages of the side's cells alone, and adds none
pub record ChangesCells (cells : SideCells) (steady failed : Type 0) (old new : ShelfView) : Type 0 where
  pub keeps : Keeps steady failed old new
  pub pages : (set : SetId) → IsApart cells set → new.pages set ≡ old.pages set
  pub places : SameSets old.places new.places
  pub untold : (set : SetId) → old.pages set ≡ None → new.pages set ≡ None
  pub free : new.free ≡ old.free

-- the rows of a root set without that of a root which is cut out
abbrev pub rows_without : Pointer → List RootRow → List RootRow
rows_without (Behind prior) rows = rows
rows_without (Below above place) rows = rows
rows_without (Root place) rows = remove rows place

-- A pointer of the side that led to an address is set to that cell's next twin, or its row of the root set has gone; `shown` is the pointer as the
-- caller knows it, who knows no place of a row.
pub record Parts (schema : Schema) (shown : Pointer) (at twin : ℕ) (cells now : ℕ → Option Cell) (rows later : List RootRow) (trees : Chains) : Type 0 where
  pub pointer : Pointer
  pub holder : stands_in shown ≡ stands_in pointer
  pub single : (place : ℕ) → pointer ≡ Root place → twin ≡ 0
  pub within : IsInSide schema pointer cells rows trees
  pub leads : leads_in schema pointer cells rows ≡ at
  pub sets : SetsPointer pointer twin cells now (λ _. ⊤)
  pub sets_shown : SetsPointer shown twin cells now (λ _. ⊤)
  pub rows_are : later ≡ rows_without pointer rows

-- the side is open but for what hung from that pointer, which is no side's now
pub record PartsFrom (before now : Records) (shown : Pointer) (at : ℕ) (cell : Cell) (old later : ShelfView) : Type 0 where
  pub schema : now.schema ≡ before.schema
  pub place : now.place ≡ before.place
  pub first : now.first ≡ before.first
  pub same_cells : now.cells ≡ before.cells
  pub cells : StandsForSide before.cells later
  pub set : now.roots.set ≡ before.roots.set
  pub shape : now.roots.shape ≡ before.roots.shape
  pub roots : IsOpened now.roots later
  pub told : IsTold before.cells old → IsTold before.cells later
  pub parts : (trees : Chains) → Walks before old trees
      → Parts before.schema shown at (alone cell).twin (cells_seen before old) (cells_seen before later) (rows_seen before old) (rows_seen now later) trees
