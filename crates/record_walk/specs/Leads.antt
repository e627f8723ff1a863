-- Where the pointers of met cells lead: to a cell of the wanted type, whose row stands beside that in whose cell the pointer is.
use Rattle.std.specs.Prelude.{◌≡◌, ◌≢◌, ℕ, ◌<◌, ◌==◌, ◌&&◌, Bool, true, false, if◌then◌else◌, List, [], ◌∷◌, drop, Option, None, Some}
use Rattle.std.specs.List.{list_any, prefix_len}
use Rattle.hal_schema.specs.declared.row.Row.{Row}
use Rattle.hal_schema.specs.declared.schema.SegType.{SegType}
use Rattle.hal_schema.specs.declared.schema.Schema.{Schema}
use Rattle.hal_schema.specs.Row.{is_parent, are_twins}
use Rattle.segment_blocks.specs.declared.tile.Cell.{Cell}
use Rattle.record_walk.specs.Tree.{Chains, times_in}
use Rattle.record_walk.specs.Listing.{Placed, list_in}
use Rattle.record_walk.specs.Pointers.{Pointer, Behind, Below}
use Rattle.record_walk.specs.Changes.{leads_to}
use Rattle.record_walk.specs.ByKey.{home_where}
use Rattle.record_walk.specs.Records.{code_behind}
use Rattle.record_walk.specs.Spans.{AreRecords, IsIn, lies_below, span_at}

-- of the rows at two homes this is so
abbrev pub stand_so : (Row → Row → Bool) → ℕ → ℕ → List Placed → Bool
stand_so test a b list = list_any (λ p. p.home == a && list_any (λ q. q.home == b && test p.row q.row) list) list

-- an uncopied cell of the type to whose twins the pointer leads
pub record LeadsOn (schema : Schema) (cells : ℕ → Option Cell) (firsts : List ℕ) (pointer : Pointer) : Type 0 where
  pub cell : Cell
  pub stands : cells (leads_to pointer cells firsts) ≡ Some cell
  pub uncopied : cell.copied ≡ false
  pub code : code_behind schema.types pointer cells ≡ Some cell.code

pub record PointersLeadOn : Type 0 where
  pub on : (schema : Schema) (cells : ℕ → Option Cell) (firsts : List ℕ) (trees : Chains) (pointer : Pointer)
      → AreRecords schema cells firsts trees → IsIn pointer cells firsts trees → 0 < leads_to pointer cells firsts → LeadsOn schema cells firsts pointer
  pub child : (schema : Schema) (cells : ℕ → Option Cell) (firsts : List ℕ) (trees : Chains) (above place : ℕ) → AreRecords schema cells firsts trees
      → IsIn (Below above place) cells firsts trees → 0 < leads_to (Below above place) cells firsts
      → stand_so is_parent above (leads_to (Below above place) cells firsts) (list_in None trees) ≡ true
  pub twin : (schema : Schema) (cells : ℕ → Option Cell) (firsts : List ℕ) (trees : Chains) (prior : ℕ) → AreRecords schema cells firsts trees
      → 0 < times_in prior trees → 0 < leads_to (Behind prior) cells firsts
      → stand_so are_twins prior (leads_to (Behind prior) cells firsts) (list_in None trees) ≡ true

-- an address in a cell: 0 leads nowhere
abbrev pub pointed : ℕ → Option ℕ
pointed to = if to == 0 then None else Some to

abbrev pub is_of : ℕ → Placed → Bool
is_of code p = p.row.code == code

-- A pointer to a first child leads to the first row of that type in the span of the row above, and nowhere where there is none.
abbrev pub ChildrenAreFirst : Type 0
ChildrenAreFirst = (schema : Schema) (cells : ℕ → Option Cell) (firsts : List ℕ) (trees : Chains) (above place code : ℕ) → AreRecords schema cells firsts trees
    → IsIn (Below above place) cells firsts trees → code_behind schema.types (Below above place) cells ≡ Some code
    → pointed (leads_to (Below above place) cells firsts) ≡ home_where (is_of code) (span_at schema.types (list_in None trees) above)

-- the rows behind the span of the row at a home
abbrev pub behind_span_at : List SegType → List Placed → ℕ → List Placed
behind_span_at types [] home = []
behind_span_at types (p ∷ list) home = if p.home == home then drop (prefix_len (lies_below types p) list) list else behind_span_at types list home

-- the home of the first row, if that is of a type
abbrev pub first_home_of : ℕ → List Placed → Option ℕ
first_home_of code [] = None
first_home_of code (p ∷ list) = if is_of code p then Some p.home else None

-- The pointer of a dependent to its next twin leads to the row directly behind its span, if that is of its type, and else nowhere: in hierarchic
-- sequence twins stand together, each with its span.
abbrev pub TwinsAreNext : Type 0
TwinsAreNext = (schema : Schema) (cells : ℕ → Option Cell) (firsts : List ℕ) (trees : Chains) (at : ℕ) (cell : Cell) → AreRecords schema cells firsts trees
    → 0 < times_in at trees → cells at ≡ Some cell → cell.code ≢ 1 → pointed cell.twin ≡ first_home_of cell.code (behind_span_at schema.types (list_in None trees) at)
