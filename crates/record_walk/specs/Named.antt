-- Where names differ, the changes of the list with homes are those of the list of rows.
use Rattle.std.specs.Prelude.{◌≡◌, ℕ, ◌<◌, not, nat_le, nat_lt, Bool, true, List, [], ◌∷◌, ◌++◌, Option, None}
use Rattle.std.specs.List.{list_all}
use Rattle.hal_schema.specs.declared.row.Row.{Row}
use Rattle.hal_schema.specs.declared.schema.Schema.{Schema}
use Rattle.hal_schema.specs.declared.schema.SegType.{SegType}
use Rattle.hal_schema.specs.Row.{row_level}
use Rattle.hal_schema.specs.Forest.{all_pairs, names_apart}
use Rattle.hal_schema.specs.Insertion.{stands_before, inserted}
use Rattle.hal_schema.specs.Span.{span_of, without_span, replaced}
use Rattle.segment_blocks.specs.declared.tile.Cell.{Cell}
use Rattle.record_walk.specs.Tree.{Occurrence, Chains, times_in}
use Rattle.record_walk.specs.Listing.{Placed, placed, list_in, rows_of}
use Rattle.record_walk.specs.Pointers.{Behind, with_segment}
use Rattle.record_walk.specs.Spans.{span_at, without_span_at, replaced_at, AreRecords, ComesBehind}

-- the span of a row, the list without it, and the list with another content of the row
pub record IsByName (schema : Schema) (list : List Placed) (p : Placed) : Type 0 where
  pub span : rows_of (span_at schema.types list p.home) ≡ span_of schema.types (rows_of list) p.row.name
  pub without : rows_of (without_span_at schema.types list p.home) ≡ without_span schema.types (rows_of list) p.row.name
  pub content : (content : List ℕ) → rows_of (replaced_at list p.home content) ≡ replaced (rows_of list) p.row.name content

abbrev pub HomesAreNames : Type 0
HomesAreNames = (schema : Schema) (cells : ℕ → Option Cell) (firsts : List ℕ) (trees : Chains) (front back : List Placed) (p : Placed)
    → AreRecords schema cells firsts trees → list_in None trees ≡ front ++ p ∷ back → all_pairs names_apart (rows_of (list_in None trees)) ≡ true → IsByName schema (list_in None trees) p

-- the first row, if there is one, is at most so deep
abbrev pub begins_upto : List SegType → ℕ → List Row → Bool
begins_upto types n [] = true
begins_upto types n (row ∷ rows) = nat_le (row_level types row) n

-- these rows are deeper than a new one, and those aren't, from the first on
pub record StandsBetween (schema : Schema) (new : Row) (tail back : List Row) : Type 0 where
  pub none : list_all (λ row. not (stands_before schema new row)) (tail ++ back) ≡ true
  pub deeper : list_all (λ row. nat_lt (row_level schema.types new) (row_level schema.types row)) tail ≡ true
  pub next : begins_upto schema.types (row_level schema.types new) back ≡ true

-- A new row is inserted behind the last row that must stand before it and the deeper rows behind that one; at the front where there is none.
pub record InsertedBetween : Type 0 where
  pub behind : (schema : Schema) (new : Row) (head : List Row) (last : Row) (tail back : List Row) → stands_before schema new last ≡ true → StandsBetween schema new tail back
      → inserted schema (head ++ last ∷ (tail ++ back)) new ≡ head ++ last ∷ (tail ++ new ∷ back)
  pub front : (schema : Schema) (new : Row) (rows : List Row) → StandsBetween schema new [] rows → inserted schema rows new ≡ new ∷ rows

-- The twin behind which a new segment came must stand before it, and no row behind that twin must. Then it was inserted at its place.
pub record IsLastBefore (schema : Schema) (new : Row) (twin : Row) (behind : List Row) : Type 0 where
  pub before : stands_before schema new twin ≡ true
  pub last : list_all (λ row. not (stands_before schema new row)) behind ≡ true
  pub twins : row_level schema.types new ≡ row_level schema.types twin

abbrev pub NewTwinsAreInserted : Type 0
NewTwinsAreInserted = (schema : Schema) (cells : ℕ → Option Cell) (firsts : List ℕ) (trees : Chains) (prior : ℕ) (new : Occurrence) (kinds : ℕ)
    → AreRecords schema cells firsts trees → 0 < times_in prior trees → (c : ComesBehind schema.types prior new (list_in None trees) (list_in None (with_segment (Behind prior) new kinds trees)))
    → IsLastBefore schema (placed c.twin.row.parent new).row c.twin.row (rows_of (c.below ++ c.back))
    → rows_of (list_in None (with_segment (Behind prior) new kinds trees)) ≡ inserted schema (rows_of (list_in None trees)) (placed c.twin.row.parent new).row
