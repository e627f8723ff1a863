-- The record in which a home hangs, as a function of the list of a side; and that the list is of just the cells of the side.
use Rattle.std.specs.Prelude.{◌≡◌, ℕ, ◌==◌, Bool, true, false, not, ◌&&◌, ◌||◌, if◌then◌else◌, List, [], ◌∷◌, ◌++◌, Option, None, Some}
use Rattle.std.specs.List.{list_all, list_any}
use Rattle.std.specs.Option.{option_map_or}
use Rattle.std.specs.Str.{bytes_eq}
use Rattle.hal_schema.specs.declared.row.Row.{Row}
use Rattle.hal_schema.specs.declared.schema.IndexDef.{IndexDef}
use Rattle.hal_schema.specs.declared.schema.SegType.{SegType}
use Rattle.hal_schema.specs.declared.schema.Schema.{Schema}
use Rattle.hal_schema.specs.Entry.{Entry, entries_of}
use Rattle.hal_schema.specs.Forest.{all_pairs, names_apart}
use Rattle.hal_schema.specs.Row.{same_name, row_key}
use Rattle.segment_blocks.specs.declared.tile.Cell.{Cell}
use Rattle.record_walk.specs.Tree.{Chains}
use Rattle.record_walk.specs.Listing.{Placed, list_in, rows_of}
use Rattle.record_walk.specs.Side.{RootRow, IsSideOf}
use Rattle.record_walk.specs.Volume.{PlacedSide, listed, AreAllSides}

-- The root of the record in which the row at a home hangs: the last root at or before that row, and none where no row has the home. It is said of any
-- items with homes and
-- rows.
abbrev pub root_above : {X : Type 0} → (X → ℕ) → (X → Row) → Option Row → List X → ℕ → Option Row
root_above home row root [] at = None
root_above home row root (x ∷ list) at =
    let now = if (row x).code == 1 then Some (row x) else root in
    if home x == at then now else root_above home row now list at

-- the row at a home, if it bears the name of an entry's target, hangs in the record of the entry's root key
abbrev pub hangs_by : {X : Type 0} → List SegType → (X → ℕ) → (X → Row) → List X → Entry → X → Bool
hangs_by types home row list entry x =
    not (same_name (row x).name entry.target) || option_map_or (λ root. bytes_eq (row_key types root) entry.root) (root_above home row None list (home x)) false

-- An entry's root key is that of the record in which its target hangs, on whichever side that is.
abbrev pub EntriesHangInRecords : Type 0
EntriesHangInRecords = (schema : Schema) (front behind : List PlacedSide) (side : PlacedSide) (index : IndexDef) → AreAllSides schema (front ++ side ∷ behind)
    → all_pairs names_apart (rows_of (listed (front ++ side ∷ behind))) ≡ true
    → list_all (λ entry. list_all (hangs_by schema.types (λ p. p.home) (λ p. p.row) (list_in None side.trees) entry) (list_in None side.trees))
    (entries_of schema.types index (rows_of (listed (front ++ side ∷ behind)))) ≡ true

-- a cell that isn't copied, with the code, the name and the content of a row
abbrev pub is_cell_of : Row → Cell → Bool
is_cell_of row cell = not cell.copied && cell.code == row.code && same_name cell.name row.name && bytes_eq cell.content row.content

-- at each home of the list stands the cell of its row; each cell that isn't copied is in the list; no home is in it twice
pub record ListsItsCells (cells : ℕ → Option Cell) (list : List Placed) : Type 0 where
  pub stand : list_all (λ p. option_map_or (is_cell_of p.row) (cells p.home) false) list ≡ true
  pub met : (home : ℕ) (cell : Cell) → cells home ≡ Some cell → cell.copied ≡ false → list_any (λ p. p.home == home) list ≡ true
  pub once : all_pairs (λ p q. not (p.home == q.home)) list ≡ true

abbrev pub SidesListTheirCells : Type 0
SidesListTheirCells = (schema : Schema) (place : ℕ) (cells : ℕ → Option Cell) (rows : List RootRow) (trees : Chains) → IsSideOf schema place cells rows trees
    → ListsItsCells cells (list_in None trees)
