-- Words of the private functions: the walk through all cells of a side.
use Rattle.std.specs.Prelude.{◌≡◌, ℕ, false, List, [], ◌∷◌, ◌++◌, map, Option, Some, ⊤}
use Rattle.hal_base.specs.declared.place.Ilk.{Ilk}
use Rattle.hal_base.specs.ShelfCalls.{ShelfView}
use Rattle.segment_blocks.specs.declared.tile.Cell.{Cell}
use Rattle.free_space.specs.declared.side.SideCells.{SideCells}
use Rattle.free_space.specs.SideCalls.{IsTold, cells_of}
use Rattle.keyed_sets.specs.declared.set.KeyedSet.{KeyedSet}
use Rattle.record_walk.specs.Tree.{Twins, first_of, Hangs}
use Rattle.record_walk.specs.Listing.{Placed, list_of}
use Rattle.record_walk.specs.Side.{RootRow, alone, seen}
use Rattle.record_tree.specs.declared.walk.HomedRow.{HomedRow}
use Rattle.record_tree.specs.declared.walk.Waiting.{Waiting}
use Rattle.record_tree.specs.declared.walk.Walk.{Walk}
use Rattle.record_tree.specs.Finding.{placed_of}
use Rattle.record_tree.specs.Sides.{root_rows}

-- these addresses wait below a row of this name, the first of them last
abbrev pub waits : Option Ilk → List ℕ → List Waiting
waits parent [] = []
waits parent (at ∷ more) = waits parent more ++ record { at = at; parent = parent } ∷ []

-- the row of a cell, at its home
abbrev pub row_at : ℕ → Option Ilk → Cell → HomedRow
row_at home parent cell = record { home = home; row = record { name = cell.name; code = cell.code; parent = parent; content = cell.content } }

-- the row of the cell came behind those that were met, and what the cell leads to waits
pub record MeetsRow (cells : ℕ → Option Cell) (next : Waiting) (old new : Walk) : Type 0 where
  pub cell : Cell
  pub stands : cells next.at ≡ Some cell
  pub waiting : new.waiting.items ≡ (old.waiting.items ++ waits next.parent ((alone cell).twin ∷ [])) ++ waits (Some cell.name) cell.children
  pub rows : new.rows ≡ old.rows ++ row_at next.at next.parent cell ∷ []

-- twins below a row of a name wait by the address of their first
abbrev pub waits_for : Option Ilk × Twins → Waiting
waits_for chain = record { at = first_of (chain.1); parent = chain.0 }

-- the rows of chains that wait: the last chain is met first
abbrev pub rows_waiting : List (Option Ilk × Twins) → List Placed
rows_waiting [] = []
rows_waiting (chain ∷ more) = rows_waiting more ++ list_of (chain.0) (chain.1)

abbrev pub AllHang : (ℕ → Option Cell) → List (Option Ilk × Twins) → Type 0
AllHang cells [] = ⊤
AllHang cells (chain ∷ more) = Hangs cells (chain.1) × AllHang cells more

-- chains hang from the addresses that wait, and these are their rows
pub record Waits (cells : ℕ → Option Cell) (waiting : List Waiting) (list : List Placed) : Type 0 where
  pub chains : List (Option Ilk × Twins)
  pub are : map waits_for chains ≡ waiting
  pub hang : AllHang (seen false cells) chains
  pub rows : rows_waiting chains ≡ list

abbrev pub CanWait : (ℕ → Option Cell) → List Waiting → Type 0
CanWait cells waiting = (list : List Placed) × Waits cells waiting list

-- all rows that waited were met, behind those that were met before
abbrev pub MeetsAll : SideCells → ShelfView → Walk → Walk → Type 0
MeetsAll cells shelf old new = IsTold cells shelf → (list : List Placed) → Waits (cells_of cells shelf) old.waiting.items list → map placed_of new.rows ≡ map placed_of old.rows ++ list

-- the homes of the roots, by their keys
abbrev pub HasRootHomes : KeyedSet → ShelfView → List ℕ → Type 0
HasRootHomes roots shelf list = (pages : List (List ℕ)) → shelf.pages roots.set ≡ Some pages → list ≡ map (λ (row : RootRow). row.home) (root_rows roots.shape (Some pages))
