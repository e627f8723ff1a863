-- What a change of trees is on their list. A row is found by its home, so that nothing is asked of names.
use Rattle.std.specs.Prelude.{◌≡◌, ℕ, ◌<◌, ◌≤◌, ◌==◌, nat_le, Bool, true, if◌then◌else◌, List, [], ◌∷◌, ◌++◌, length, map, drop, take_while, Option, None, Some}
use Rattle.std.specs.List.{list_all, prefix_len}
use Rattle.hal_base.specs.declared.place.Ilk.{Ilk}
use Rattle.hal_schema.specs.declared.schema.SegType.{SegType}
use Rattle.hal_schema.specs.declared.schema.Schema.{Schema}
use Rattle.hal_schema.specs.SegType.{level_of}
use Rattle.hal_schema.specs.Row.{row_level}
use Rattle.hal_schema.specs.Span.{is_deeper, with_content}
use Rattle.segment_blocks.specs.declared.tile.Cell.{Cell}
use Rattle.record_walk.specs.Tree.{Occurrence, Chains, times_in, are_roots}
use Rattle.record_walk.specs.Listing.{Placed, placed, list_in}
use Rattle.record_walk.specs.Pointers.{Pointer, Behind, Below, Root, with_segment, without_segment, with_content_at}
use Rattle.record_walk.specs.Changes.{stands_in, leads_to, HangFrom}

abbrev pub lies_below : List SegType → Placed → Placed → Bool
lies_below types p q = is_deeper types p.row q.row

-- the first row, if there is one, is at most so deep
abbrev pub starts_upto : List SegType → ℕ → List Placed → Bool
starts_upto types n [] = true
starts_upto types n (p ∷ list) = nat_le (row_level types p.row) n

-- the row at a home and the rows that follow it, up to the next one that isn't deeper
abbrev pub span_at : List SegType → List Placed → ℕ → List Placed
span_at types [] home = []
span_at types (p ∷ list) home = if p.home == home then p ∷ take_while (lies_below types p) list else span_at types list home

-- the list without that span
abbrev pub without_span_at : List SegType → List Placed → ℕ → List Placed
without_span_at types [] home = []
without_span_at types (p ∷ list) home = if p.home == home then drop (prefix_len (lies_below types p) list) list else p ∷ without_span_at types list home

-- the list with another content of the row at a home
abbrev pub replaced_at : List Placed → ℕ → List ℕ → List Placed
replaced_at list home content = map (λ (p : Placed). if p.home == home then record p { row = with_content p.row content } else p) list

-- trees of records: they hang from the rows of the root set, are of the wanted types, and meet no home twice
pub record AreRecords (schema : Schema) (cells : ℕ → Option Cell) (firsts : List ℕ) (trees : Chains) : Type 0 where
  pub from : HangFrom cells firsts trees
  pub typed : are_roots schema.types trees ≡ true
  pub once : (home : ℕ) → times_in home trees ≤ 1

-- the pointer stands in a segment that is met, or in a row of the root set
pub record IsIn (pointer : Pointer) (cells : ℕ → Option Cell) (firsts : List ℕ) (trees : Chains) : Type 0 where
  pub met : (home : ℕ) → stands_in pointer ≡ Some home → 0 < times_in home trees
  pub child : (above place : ℕ) (cell : Cell) → pointer ≡ Below above place → cells above ≡ Some cell → place < length cell.children
  pub row : (place : ℕ) → pointer ≡ Root place → place < length firsts

-- a row came in with its home, among twins of a type, and every other row keeps its own
pub record ComesIn (types : List SegType) (new : Occurrence) (old now : List Placed) : Type 0 where
  pub code : ℕ
  pub parent : Option Ilk
  pub front : List Placed
  pub back : List Placed
  pub next : starts_upto types (level_of types code) back ≡ true
  pub whole : old ≡ front ++ back
  pub placed_in : now ≡ front ++ placed parent new ∷ back

abbrev pub NewSegmentsAreListed : Type 0
NewSegmentsAreListed = (schema : Schema) (cells : ℕ → Option Cell) (firsts : List ℕ) (trees : Chains) (pointer : Pointer) (new : Occurrence) (kinds : ℕ)
    → AreRecords schema cells firsts trees → IsIn pointer cells firsts trees → ComesIn schema.types new (list_in None trees) (list_in None (with_segment pointer new kinds trees))

-- behind the span of the twin at a home, with that twin's parent
pub record ComesBehind (types : List SegType) (prior : ℕ) (new : Occurrence) (old now : List Placed) : Type 0 where
  pub twin : Placed
  pub below : List Placed
  pub front : List Placed
  pub back : List Placed
  pub at : twin.home ≡ prior
  pub span : span_at types old prior ≡ twin ∷ below
  pub deeper : list_all (lies_below types twin) below ≡ true
  pub next : starts_upto types (row_level types twin.row) back ≡ true
  pub whole : old ≡ front ++ ((twin ∷ below) ++ back)
  pub placed_in : now ≡ front ++ ((twin ∷ below) ++ placed twin.row.parent new ∷ back)

abbrev pub NewTwinsStandBehindSpans : Type 0
NewTwinsStandBehindSpans = (schema : Schema) (cells : ℕ → Option Cell) (firsts : List ℕ) (trees : Chains) (prior : ℕ) (new : Occurrence) (kinds : ℕ)
    → AreRecords schema cells firsts trees → 0 < times_in prior trees → ComesBehind schema.types prior new (list_in None trees) (list_in None (with_segment (Behind prior) new kinds trees))

-- what is cut out is the span of the segment to which the pointer led
abbrev pub CutsAreSpans : Type 0
CutsAreSpans = (schema : Schema) (cells : ℕ → Option Cell) (firsts : List ℕ) (trees : Chains) (pointer : Pointer)
    → AreRecords schema cells firsts trees → IsIn pointer cells firsts trees → 0 < leads_to pointer cells firsts
    → list_in None (without_segment pointer trees) ≡ without_span_at schema.types (list_in None trees) (leads_to pointer cells firsts)

abbrev pub ReplacedContentIsListed : Type 0
ReplacedContentIsListed = (schema : Schema) (cells : ℕ → Option Cell) (firsts : List ℕ) (trees : Chains) (home : ℕ) (content : List ℕ)
    → AreRecords schema cells firsts trees → 0 < times_in home trees → list_in None (with_content_at home content trees) ≡ replaced_at (list_in None trees) home content
