-- In a forest a row's parent stands before it, with nothing between that isn't deeper.
use Rattle.std.proofs.Common.{◌≡◌, ℕ, zero, suc, ◌+◌, ◌<◌, ◌==◌, nat_lt, Bool, true, false, ◌&&◌, List, [], ◌∷◌, ◌++◌, length, Option, Some, None, ◌⊎◌, inl, inr, refl, subst, arith}
use Rattle.std.specs.Prelude.{filter, is_none}
use Rattle.std.specs.List.{list_all}
use Rattle.std.specs.Option.{option_map_or}
use Rattle.std.proofs.lemmas.Bool.{and_parts, and_from, eqb-true}
use Rattle.hal_schema.specs.declared.row.Row.{Row}
use Rattle.hal_schema.specs.declared.schema.SegType.{SegType}
use Rattle.hal_schema.specs.declared.schema.Schema.{Schema}
use Rattle.hal_schema.specs.SegType.{type_of, is_parent_code}
use Rattle.hal_schema.specs.Row.{is_parent, row_level}
use Rattle.hal_schema.specs.Paths.{path_with, path_after, with_paths, paths_of}
use Rattle.hal_schema.specs.Forest.{all_pairs, names_apart, has_length, is_child_of, is_path, in_type_order, in_twin_order, is_selected, entries_differ, rows_are_named, rows_are_below_parents, types_rise, twins_rise, keys_are_placed, is_forest}
use Rattle.hal_schema.specs.Facts.{IsKept}
use Rattle.forest_laws.proofs.Lists.{Among, among_filter, all_middle}
use Rattle.forest_laws.proofs.Names.{parent_is, none_is, parent_code_is}
use Rattle.forest_laws.proofs.Carried.{Kept, carried, with_append}

-- the parts of a forest
pub record Parts (schema : Schema) (rows : List Row) : Type 0 where
  pub named : all_pairs names_apart rows ≡ true
  pub long : list_all (has_length schema.types) rows ≡ true
  pub placed : list_all (λ p. is_path schema.types None p.0) (paths_of schema.types rows) ≡ true
  pub types : all_pairs in_type_order rows ≡ true
  pub twins : all_pairs (in_twin_order schema) rows ≡ true
  pub selected : list_all (is_selected schema) rows ≡ true
  pub indexed : list_all (entries_differ schema.types rows) schema.indexes ≡ true

pub parts_of : (schema : Schema) (rows : List Row) → is_forest schema rows ≡ true → Parts schema rows
parts_of schema rows h =
    let types = schema.types in
    let a = and_parts (rows_are_named types rows && rows_are_below_parents types rows && types_rise rows && twins_rise schema rows) (keys_are_placed schema rows) h in
    let b = and_parts (rows_are_named types rows && rows_are_below_parents types rows && types_rise rows) (twins_rise schema rows) a.0 in
    let c = and_parts (rows_are_named types rows && rows_are_below_parents types rows) (types_rise rows) b.0 in
    let d = and_parts (rows_are_named types rows) (rows_are_below_parents types rows) c.0 in
    let e = and_parts (all_pairs names_apart rows) (list_all (has_length types) rows) d.0 in
    let f = and_parts (list_all (is_selected schema) rows) (list_all (entries_differ types rows) schema.indexes) a.1 in
    record { named = e.0; long = e.1; placed = d.1; types = c.1; twins = b.1; selected = f.0; indexed = f.1 }

pub forest_from : (schema : Schema) (rows : List Row) → Parts schema rows → is_forest schema rows ≡ true
forest_from schema rows p =
    let types = schema.types in
    let d = and_from (rows_are_named types rows) (rows_are_below_parents types rows) (and_from (all_pairs names_apart rows) (list_all (has_length types) rows) p.named p.long) p.placed in
    let c = and_from (rows_are_named types rows && rows_are_below_parents types rows) (types_rise rows) d p.types in
    let b = and_from (rows_are_named types rows && rows_are_below_parents types rows && types_rise rows) (twins_rise schema rows) c p.twins in
    and_from (rows_are_named types rows && rows_are_below_parents types rows && types_rise rows && twins_rise schema rows) (keys_are_placed schema rows) b
    (and_from (list_all (is_selected schema) rows) (list_all (entries_differ types rows) schema.indexes) p.selected p.indexed)

-- the last row of a path is a child of the one before it
abbrev pub EndsUnder : List SegType → Option Row → List Row → Row → Type 0
EndsUnder types up path row = ((is_child_of types up row ≡ true) × (path ≡ [])) ⊎ ((q : Row) × Among q path × (is_child_of types (Some q) row ≡ true))

pub path_end : (types : List SegType) (up : Option Row) (path : List Row) (row : Row) → is_path types up (path ++ row ∷ []) ≡ true → EndsUnder types up path row
path_end types up [] row h = inl ((and_parts (is_child_of types up row) true h).0, refl)
path_end types up (p ∷ path) row h = by (path_end types (Some p) path row (and_parts (is_child_of types up p) (is_path types (Some p) (path ++ row ∷ [])) h).1)
  where
    by : EndsUnder types (Some p) path row → EndsUnder types up (p ∷ path) row
    by (inl one) = inr (p, inl refl, one.0)
    by (inr more) = inr (more.0, inr more.1, more.2)

pub path_grows : (types : List SegType) (up : Option Row) (path : List Row) (above row : Row) → is_path types up (path ++ above ∷ []) ≡ true → is_child_of types (Some above) row ≡ true → is_path types up ((path ++ above ∷ []) ++ row ∷ []) ≡ true
path_grows types up [] above row h child = and_from (is_child_of types up above) (is_child_of types (Some above) row && true) (and_parts (is_child_of types up above) true h).0 (and_from (is_child_of types (Some above) row) true child refl)
path_grows types up (p ∷ path) above row h child =
    let a = and_parts (is_child_of types up p) (is_path types (Some p) (path ++ above ∷ [])) h in
    and_from (is_child_of types up p) (is_path types (Some p) ((path ++ above ∷ []) ++ row ∷ [])) a.0 (path_grows types (Some p) path above row a.1 child)

-- a child is one level deeper
pub child_level : (schema : Schema) → IsKept schema → (above row : Row) → is_child_of schema.types (Some above) row ≡ true → row_level schema.types row ≡ row_level schema.types above + 1
child_level schema kept above row h =
    let a = and_parts (is_parent above row) (is_parent_code schema.types above.code row.code) h in
    (kept.below above.code row.code (parent_code_is schema.types above.code row.code a.1)).level

pub child_parent : (types : List SegType) (above row : Row) → is_child_of types (Some above) row ≡ true → row.parent ≡ Some above.name
child_parent types above row h = parent_is above row (and_parts (is_parent above row) (is_parent_code types above.code row.code) h).0

long_known : (types : List SegType) (code n : ℕ) → option_map_or (λ (t : SegType). n == t.bytes) (type_of types code) false ≡ true → 0 < code
long_known types zero n h = cc
long_known types (suc code) n h = omega arith

pub row_known : (types : List SegType) (row : Row) → has_length types row ≡ true → 0 < row.code
row_known types row h = long_known types row.code (length row.content) h

-- the path of a row among the rows
abbrev pub Below : Schema → List Row → Type 0
Below schema rows = list_all (λ p. is_path schema.types None p.0) (paths_of schema.types rows) ≡ true

pub path_in : (schema : Schema) (front behind : List Row) (row : Row) → Below schema (front ++ row ∷ behind) → is_path schema.types None (path_with (row_level schema.types) (path_after (row_level schema.types) [] front) row) ≡ true
path_in schema front behind row placed =
    let level = row_level schema.types in
    let P : List Row × Row → Bool = λ p. is_path schema.types None p.0 in
    let path = path_with level (path_after level [] front) row in
    all_middle P (with_paths level [] front) (with_paths level path behind) (path, row)
    (subst (λ (l : List (List Row × Row)). list_all P l ≡ true) (with_append level [] front (row ∷ behind)) placed)

pub path_among : (schema : Schema) (front behind : List Row) (row : Row) → Parts schema (front ++ row ∷ behind) → is_path schema.types None (path_with (row_level schema.types) (path_after (row_level schema.types) [] front) row) ≡ true
path_among schema front behind row parts = path_in schema front behind row parts.placed

-- the parent of a row, among the rows before it
pub record ParentOf (schema : Schema) (front : List Row) (row : Row) : Type 0 where
  pub above : Row
  pub kept : Kept (row_level schema.types) above front
  pub child : is_child_of schema.types (Some above) row ≡ true

abbrev pub IsRootRow : Row → Type 0
IsRootRow row = (row.code ≡ 1) × (row.parent ≡ None)

root_row : (types : List SegType) (row : Row) → is_child_of types None row ≡ true → IsRootRow row
root_row types row h =
    let a = and_parts (row.code == 1) (is_none row.parent) h in
    (eqb-true row.code 1 a.0, none_is row.parent a.1)

pub parent_in : (schema : Schema) (front behind : List Row) (row : Row) → Below schema (front ++ row ∷ behind) → IsRootRow row ⊎ ParentOf schema front row
parent_in schema front behind row placed =
    let level = row_level schema.types in
    let test : Row → Bool = λ above. nat_lt (level above) (level row) in
    by (path_end schema.types None _ row (path_in schema front behind row placed))
  where
    by_kept : (q : Row) → is_child_of schema.types (Some q) row ≡ true → Kept (row_level schema.types) q front ⊎ (Among q [] × (list_all (λ y. nat_lt (row_level schema.types q) (row_level schema.types y)) front ≡ true)) → ParentOf schema front row
    by_kept q child (inl k) = record { above = q; kept = k; child = child }
    by_kept q child (inr n) = absurd n.0

    by : EndsUnder schema.types None (filter (λ above. nat_lt (row_level schema.types above) (row_level schema.types row)) (path_after (row_level schema.types) [] front)) row → IsRootRow row ⊎ ParentOf schema front row
    by (inl root) = inl (root_row schema.types row root.0)
    by (inr more) =
        let level = row_level schema.types in
        let q = more.0 in
        let among = among_filter (λ above. nat_lt (level above) (level row)) q (path_after level [] front) more.1 in
        inr (by_kept q more.2 (carried level q [] front among.0))

pub parent_before : (schema : Schema) (front behind : List Row) (row : Row) → Parts schema (front ++ row ∷ behind) → IsRootRow row ⊎ ParentOf schema front row
parent_before schema front behind row parts = parent_in schema front behind row parts.placed
