-- A span is cut out of the side's list: what becomes of its cells, and of the pointer that led to it.
use Rattle.std.specs.Prelude.{◌≡◌, ◌≢◌, ℕ, ◌+◌, ◌*◌, ◌≤◌, ◌==◌, Bool, true, false, List, length, Option, None, Some, option_and_then}
use Rattle.std.specs.List.{list_any}
use Rattle.hal_base.specs.ShelfCalls.{ShelfView}
use Rattle.segment_blocks.specs.declared.tile.Cell.{Cell}
use Rattle.record_walk.specs.Tree.{Chains}
use Rattle.record_walk.specs.Listing.{Placed, list_in}
use Rattle.record_walk.specs.Pointers.{Pointer}
use Rattle.record_walk.specs.Side.{alone}
use Rattle.record_walk.specs.SideChanges.{SetsPointer}
use Rattle.record_walk.specs.Spans.{span_at, without_span_at}
use Rattle.record_tree.specs.declared.place.Place.{Place}
use Rattle.record_tree.specs.declared.records.Records.{Records}
use Rattle.record_tree.specs.Changing.{ListBecomes}
use Rattle.record_tree.specs.Finding.{first_child}
use Rattle.record_tree.specs.Placing.{pointer_from}
use Rattle.record_tree.specs.Standing.{HoldsRow, OfList, StaysRecords, Walks, cells_seen}

-- ---- which row it is

-- The place is that of the row at a home, as `twin` and `child` find it: the pointer of the twin before it leads to it, or that of its parent. The
-- rows of the root set lead to a root.
pub record LeadsTo (records : Records) (shelf : ShelfView) (place : Place) (at : ℕ) : Type 0 where
  pub row : HoldsRow records shelf at (λ cell. place.parent ≡ None → cell.code ≡ 1)
  pub twin : (above prior : ℕ) → place.parent ≡ Some above → place.prior ≡ Some prior → HoldsRow records shelf prior (λ cell. (cell.code ≢ 1) × (cell.twin ≡ at))
  pub child : (above : ℕ) (own : Cell) → place.parent ≡ Some above → place.prior ≡ None → cells_seen records shelf at ≡ Some own
      → HoldsRow records shelf above (λ cell. first_child records.schema own.code cell ≡ at)

-- ---- what becomes of a cell of the span

-- it becomes a hole
abbrev pub no_cell : Cell → Option Cell
no_cell cell = None

-- a unit has copied it: it stays as it is, with the mark
abbrev pub marked : Cell → Option Cell
marked cell = Some (record cell { copied = true })

abbrev pub has_home : List Placed → ℕ → Bool
has_home list home = list_any (λ p. p.home == home) list

-- This became of each cell of the span. Of the others one alone has changed, in which the pointer to the span now leads to the next twin of its first row.
pub record CutsCells (fate : Cell → Option Cell) (pointer : Pointer) (span : List Placed) (first : Cell) (old now : ℕ → Option Cell) : Type 0 where
  pub ended : (home : ℕ) → has_home span home ≡ true → now home ≡ option_and_then fate (old home)
  pub passed : SetsPointer pointer (alone first).twin old now (λ home. has_home span home ≡ false)

-- the list lost the span of the row at a home, and every other row keeps its home
pub record Cuts (fate : Cell → Option Cell) (before now : Records) (place : Place) (at : ℕ) (old later : ShelfView) : Type 0 where
  pub stays : StaysRecords before now later
  pub list : (trees : Chains) → Walks before old trees → ListBecomes now later trees (λ list changed. changed ≡ without_span_at before.schema.types list at)
  pub cells : (trees : Chains) (cell : Cell) → Walks before old trees → cells_seen before old at ≡ Some cell
      → CutsCells fate (pointer_from before.schema cell.code place.parent place.prior) (span_at before.schema.types (list_in None trees) at) cell (cells_seen before old) (cells_seen now later)

-- The call reads pages at most twice for each row of the span, and three times more: it costs no more where other rows are many.
abbrev pub ReadsForSpan : Records → ℕ → ShelfView → ShelfView → Type 0
ReadsForSpan records at old later = OfList records old (λ list. later.fetches ≤ old.fetches + (3 + 2 * length (span_at records.schema.types list at)))

-- the place of a root
abbrev pub no_place : Place
no_place = record { parent = None; prior = None }
