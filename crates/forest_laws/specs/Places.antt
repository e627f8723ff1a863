-- Where an insertion puts a row, in the words of the rule for twins.
use Rattle.std.specs.Prelude.{◌≡◌, ℕ, nat_lt, Bool, true, not, ◌&&◌, ◌||◌, List, [], ◌∷◌, ◌++◌, map, filter, find, None, Some, IsTrue}
use Rattle.std.specs.List.{list_any}
use Rattle.std.specs.Option.{option_map_or}
use Rattle.std.specs.Ordering.{is_lt, is_eq}
use Rattle.hal_schema.specs.declared.row.Row.{Row}
use Rattle.hal_schema.specs.declared.schema.SegType.{SegType}
use Rattle.hal_schema.specs.declared.schema.Schema.{Schema}
use Rattle.hal_schema.specs.SegType.{type_of}
use Rattle.hal_schema.specs.Row.{same_parent, is_parent, are_twins}
use Rattle.hal_schema.specs.Paths.{paths_of}
use Rattle.hal_schema.specs.Span.{span_of}
use Rattle.hal_schema.specs.Forest.{twin_cmp, is_forest}
use Rattle.hal_schema.specs.Insertion.{inserted, may_be_inserted}

-- the twins that must stand before a new row: those of lower key, and under LAST those of equal key as well
abbrev pub is_last : Schema → ℕ → Bool
is_last schema code = option_map_or (λ t. not t.first) (type_of schema.types code) true

abbrev pub is_earlier_twin : Schema → Row → Row → Bool
is_earlier_twin schema new row = are_twins row new && (is_lt (twin_cmp schema row new) || (is_eq (twin_cmp schema row new) && is_last schema new.code))

abbrev pub earlier_twins : Schema → List Row → Row → List Row
earlier_twins schema rows new = filter (is_earlier_twin schema new) rows

-- the spans of the parent's children of lower code: each row with one of them on its path
abbrev pub is_lower_sibling : Row → Row → Bool
is_lower_sibling new row = same_parent row.parent new.parent && nat_lt row.code new.code

abbrev pub lower_spans : List SegType → List Row → Row → List Row
lower_spans types rows new = map (λ p. p.1) (filter (λ p. list_any (is_lower_sibling new) p.0) (paths_of types rows))

-- a row came directly behind a part of the rows
pub record IsBehind (part rows : List Row) (new : Row) (result : List Row) : Type 0 where
  pub front : List Row
  pub back : List Row
  pub whole : rows ≡ front ++ (part ++ back)
  pub placed : result ≡ front ++ (part ++ new ∷ back)

-- directly behind the span of the last twin that must stand before;
-- where there is none, behind the parent and the spans of its children of lower code, or at the front for a root
pub record IsByRule (schema : Schema) (rows : List Row) (new : Row) : Type 0 where
  pub behind_twin : (before : List Row) (last : Row) → earlier_twins schema rows new ≡ before ++ last ∷ []
      → IsBehind (span_of schema.types rows last.name) rows new (inserted schema rows new)
  pub behind_parent : (above : Row) → earlier_twins schema rows new ≡ [] → find (λ row. is_parent row new) rows ≡ Some above
      → IsBehind (above ∷ lower_spans schema.types rows new) rows new (inserted schema rows new)
  pub at_front : earlier_twins schema rows new ≡ [] → new.parent ≡ None → inserted schema rows new ≡ new ∷ rows

abbrev pub InsertionsAreByRule : Type 0
InsertionsAreByRule = (schema : Schema) (rows : List Row) (new : Row) → IsTrue (is_forest schema rows) → IsTrue (may_be_inserted schema rows new)
    → IsByRule schema rows new
