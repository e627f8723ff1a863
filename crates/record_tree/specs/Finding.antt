-- What the calls that look for a row answer, as functions of the side's list where the pages are told.
use Rattle.std.specs.Prelude.{◌≡◌, ℕ, Bool, true, List, map, slice_index, Option, None, Some, IfSome}
use Rattle.std.specs.Ordering.{is_lt}
use Rattle.std.specs.Str.{bytes_eq}
use Rattle.hal_base.specs.ShelfCalls.{ShelfView, OnlyReads}
use Rattle.hal_schema.specs.declared.schema.Schema.{Schema}
use Rattle.hal_schema.specs.Roots.{root_cmp, partition_of}
use Rattle.hal_schema.specs.declared.row.Row.{Row}
use Rattle.hal_schema.specs.Row.{is_parent, are_twins}
use Rattle.segment_blocks.specs.declared.tile.Cell.{Cell}
use Rattle.free_space.specs.SideCalls.{IsTold}
use Rattle.record_walk.specs.ByKey.{home_where, is_root_where}
use Rattle.record_walk.specs.Leads.{stand_so, pointed, is_of, behind_span_at, first_home_of}
use Rattle.record_walk.specs.Listing.{Placed}
use Rattle.record_walk.specs.Orders.{child_place}
use Rattle.record_walk.specs.Spans.{span_at}
use Rattle.record_tree.specs.declared.records.Records.{Records}
use Rattle.record_tree.specs.declared.walk.HomedRow.{HomedRow}
use Rattle.record_tree.specs.Standing.{cells_seen, OfList, HoldsRow}

-- the key of a root, and the keys that stand behind a key in the order of roots; all keys where there is none
abbrev pub is_key : List ℕ → List ℕ → Bool
is_key key other = bytes_eq other key

abbrev pub is_behind : Schema → Option (List ℕ) → List ℕ → Bool
is_behind schema None other = true
is_behind schema (Some key) other = is_lt (root_cmp schema key other)

-- a key that a root of the partition may have
abbrev pub BelongsTo : Schema → ℕ → List ℕ → Type 0
BelongsTo schema place key = partition_of schema key ≡ Some place

-- this is the home of the first root whose key passes, or none
pub record FindsRoot (records : Records) (shelf : ShelfView) (test : List ℕ → Bool) (found : Option ℕ) : Type 0 where
  pub is : OfList records shelf (λ list. found ≡ home_where (is_root_where records.schema test) list)
  pub row : IfSome found (λ home. HoldsRow records shelf home (λ cell. cell.code ≡ 1))

-- This is where the cell at an address leads by one of its pointers, or none: to a row of this type, of which this is so beside the row at the address.
pub record FindsTwins (records : Records) (shelf : ShelfView) (at : ℕ) (pointer code : Cell → ℕ) (test : Row → Row → Bool) (found : Option ℕ) : Type 0 where
  pub is : IsTold records.cells shelf → (cell : Cell) → cells_seen records shelf at ≡ Some cell → found ≡ pointed (pointer cell)
  pub row : IfSome found (λ home. (cell : Cell) → cells_seen records shelf at ≡ Some cell → HoldsRow records shelf home (λ other. other.code ≡ code cell))
  pub beside : IfSome found (λ home. OfList records shelf (λ list. stand_so test at home list ≡ true))

-- the pointer to the first child of a type
abbrev pub first_child : Schema → ℕ → Cell → ℕ
first_child schema code cell = slice_index cell.children (child_place schema.types code)

-- It is the first row of that type in the span of the row at the address, and so there is none just where the span has no such row.
pub record FindsChild (records : Records) (shelf : ShelfView) (at code : ℕ) (found : Option ℕ) : Type 0 where
  pub leads : FindsTwins records shelf at (first_child records.schema code) (λ _. code) is_parent found
  pub first : OfList records shelf (λ list. found ≡ home_where (is_of code) (span_at records.schema.types list at))

-- It is the row directly behind the span of the row at the address, if that is of its type, and so there is none just where it isn't.
pub record FindsTwin (records : Records) (shelf : ShelfView) (at : ℕ) (found : Option ℕ) : Type 0 where
  pub leads : FindsTwins records shelf at (λ cell. cell.twin) (λ cell. cell.code) are_twins found
  pub next : (cell : Cell) → cells_seen records shelf at ≡ Some cell → OfList records shelf (λ list. found ≡ first_home_of cell.code (behind_span_at records.schema.types list at))

-- ---- all rows

abbrev pub placed_of : HomedRow → Placed
placed_of homed = record { home = homed.home; row = homed.row }

-- these are all rows of the side in hierarchic sequence, each with its home
abbrev pub ListsRows : Records → ShelfView → List HomedRow → Type 0
ListsRows records shelf rows = OfList records shelf (λ list. map placed_of rows ≡ list)

-- a call that reads, however many pages
abbrev pub OnlyReadsSome : (steady failed : Type 0) → ShelfView → ShelfView → Type 0
OnlyReadsSome steady failed old new = (most : ℕ) × OnlyReads most steady failed old new
