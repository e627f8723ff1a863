-- In the view of a forest the roots are the elements of the first type and of level 1, their keys are their own, and records
-- stand in one piece.
use Rattle.std.proofs.Common.{◌≡◌, ℕ, zero, suc, ◌==◌, ◌<◌, Bool, true, false, cond, ◌&&◌, ◌||◌, ◌⊎◌, inl, inr, List, [], ◌∷◌, ◌++◌, length, map, Option, None, Some, refl, sym, ap, ◌∙◌, arith}
use Rattle.std.specs.Prelude.{filter, nat_lt, is_some, is_none, option_and_then}
use Rattle.std.specs.List.{list_all}
use Rattle.std.specs.Option.{option_map_or}
use Rattle.std.specs.Str.{bytes_eq}
use Rattle.std.proofs.lemmas.Bool.{and_parts, and_from, or_cases, or_left, or_right, eqb-true, eq-eqb, ltb-true, lt-ltb, le-ltb}
use Rattle.std.proofs.lemmas.List.{append-nil}
use Rattle.std.proofs.lemmas.List.Folds.{list_all-append}
use Rattle.std.proofs.lemmas.Slice.Eq.{bytes_eq-Decides}
use Rattle.hal_schema.specs.declared.row.Row.{Row}
use Rattle.hal_schema.specs.declared.schema.Schema.{Schema}
use Rattle.hal_schema.specs.declared.schema.SegType.{SegType}
use Rattle.hal_schema.specs.SegType.{type_of, parent_code, is_parent_code, ancestry_within, level_of, portion}
use Rattle.hal_schema.specs.Row.{row_level, row_key, is_parent}
use Rattle.hal_schema.specs.Paths.{path_with, with_paths, concatenated_key}
use Rattle.hal_schema.specs.Forest.{is_forest, is_child_of, is_path, rows_are_named, rows_are_below_parents, types_rise, twins_rise, keys_are_placed}
use Rattle.position_state.specs.declared.spot.Spot.{Spot}
use Rattle.position_state.specs.View.{plain_element, root_key_of, root_named, view_of}
use Rattle.view_laws.specs.Views.{RootsAreKeyed, RecordsStandTogether, is_keyed, root_field, stand_together}

pub below_parents : (schema : Schema) (rows : List Row) → is_forest schema rows ≡ true → rows_are_below_parents schema.types rows ≡ true
below_parents schema rows h =
    let a = and_parts (rows_are_named schema.types rows && rows_are_below_parents schema.types rows && types_rise rows && twins_rise schema rows) (keys_are_placed schema rows) h in
    let b = and_parts (rows_are_named schema.types rows && rows_are_below_parents schema.types rows && types_rise rows) (twins_rise schema rows) a.0 in
    let d = and_parts (rows_are_named schema.types rows && rows_are_below_parents schema.types rows) (types_rise rows) b.0 in
    (and_parts (rows_are_named schema.types rows) (rows_are_below_parents schema.types rows) d.0).1

-- the elements of rows, behind a path
abbrev pub shown : List SegType → List Row → List Row → List Spot
shown types path rows = map (λ p. plain_element types p.0 p.1) (with_paths (row_level types) path rows)

abbrev pub are_paths : List SegType → List Row → List Row → Bool
are_paths types path rows = list_all (λ p. is_path types None p.0) (with_paths (row_level types) path rows)

-- ---- levels

some_of : (o : Option ℕ) (above : ℕ) → option_map_or (λ parent. parent == above) o false ≡ true → is_some o ≡ true
some_of None above e = absurd (let no : ⊥ = cc in no)
some_of (Some p) above e = refl

-- the last of a path is a root, or its type has a parent
last_child : (types : List SegType) (o : Option Row) (xs : List Row) (row : Row) → is_path types o (xs ++ row ∷ []) ≡ true → (row.code == 1 || is_some (parent_code types row.code)) ≡ true
last_child types None [] row h =
    or_left (row.code == 1) (is_some (parent_code types row.code)) (and_parts (row.code == 1) (is_none row.parent) (and_parts (is_child_of types None row) true h).0).0
last_child types (Some above) [] row h =
    or_right (row.code == 1) (is_some (parent_code types row.code))
    (some_of (parent_code types row.code) above.code (and_parts (is_parent above row) (is_parent_code types above.code row.code) (and_parts (is_child_of types (Some above) row) true h).0).1)
last_child types o (x ∷ xs) row h = last_child types (Some x) xs row (and_parts (is_child_of types o x) (is_path types (Some x) (xs ++ row ∷ [])) h).1

root_level : (types : List SegType) (code : ℕ) → (code == 1) ≡ true → level_of types code ≡ 1
root_level types code h = ap (level_of types) (eqb-true code 1 h) ∙ by (parent_code types 1)
  where
    by : (o : Option ℕ) → length (1 ∷ option_map_or (ancestry_within 0 (parent_code types)) o []) ≡ 1
    by None = refl
    by (Some p) = refl

low_level : (types : List SegType) (code : ℕ) → (code == 1) ≡ false → is_some (parent_code types code) ≡ true → 1 < level_of types code
low_level types zero h e = absurd (let no : ⊥ = cc in no)
low_level types (suc zero) h e = absurd (let no : ⊥ = cc in no)
low_level types (suc (suc c)) h e = by (parent_code types (suc (suc c))) e
  where
    by : (o : Option ℕ) → is_some o ≡ true → 1 < length (suc (suc c) ∷ option_map_or (ancestry_within (suc c) (parent_code types)) o [])
    by None k = absurd (let no : ⊥ = cc in no)
    by (Some p) k = omega arith

-- ---- elements

abbrev pub is_deep : List SegType → Row → Bool
is_deep types row = nat_lt 0 (row_level types row)

none_high : (types : List SegType) (path : List Row) (l : ℕ) → list_all (is_deep types) path ≡ true → l ≡ 1 → filter (λ above. nat_lt (row_level types above) l) path ≡ []
none_high types [] l h e = refl
none_high types (x ∷ xs) l h e =
    let a = and_parts (is_deep types x) (list_all (is_deep types) xs) h in
    let off : nat_lt (row_level types x) l ≡ false = le-ltb (row_level types x) l (omega (arith, e, ltb-true 0 (row_level types x) a.0)) in
    ap (λ b. cond b (x ∷ filter (λ above. nat_lt (row_level types above) l) xs) (filter (λ above. nat_lt (row_level types above) l) xs)) off ∙ none_high types xs l a.1 e

deep_kept : (types : List SegType) (path : List Row) (l : ℕ) → list_all (is_deep types) path ≡ true → list_all (is_deep types) (filter (λ above. nat_lt (row_level types above) l) path) ≡ true
deep_kept types [] l h = refl
deep_kept types (x ∷ xs) l h =
    let a = and_parts (is_deep types x) (list_all (is_deep types) xs) h in
    by (nat_lt (row_level types x) l) a.0 (deep_kept types xs l a.1)
  where
    kept : List Row
    kept = filter (λ above. nat_lt (row_level types above) l) xs

    by : (b : Bool) → is_deep types x ≡ true → list_all (is_deep types) kept ≡ true → list_all (is_deep types) (cond b (x ∷ kept) kept) ≡ true
    by true f rest = and_from (is_deep types x) (list_all (is_deep types) kept) f rest
    by false f rest = rest

-- what a row is behind a path: a root, alone on its path, or deeper
pub data Stands (types : List SegType) (path : List Row) (row : Row) : Type 0 where
  Root : (row.code == 1) ≡ true → path_with (row_level types) path row ≡ row ∷ [] → is_none row.parent ≡ true → row_level types row ≡ 1 → Stands types path row
  Deep : (row.code == 1) ≡ false → 1 < row_level types row → Stands types path row

pub stands : (types : List SegType) (path : List Row) (row : Row) → list_all (is_deep types) path ≡ true → is_path types None (path_with (row_level types) path row) ≡ true → Stands types path row
stands types path row h k =
    by (row.code == 1) refl (or_cases (row.code == 1) (is_some (parent_code types row.code)) (last_child types None (filter (λ above. nat_lt (row_level types above) (row_level types row)) path) row k))
  where
    by : (b : Bool) → (row.code == 1) ≡ b → ((row.code == 1) ≡ true) ⊎ (is_some (parent_code types row.code) ≡ true) → Stands types path row
    by true e o =
        let one : row_level types row ≡ 1 = root_level types row.code e in
        let alone : path_with (row_level types) path row ≡ row ∷ [] = ap (λ (xs : List Row). xs ++ row ∷ []) (none_high types path (row_level types row) h one) in
        Root e alone (and_parts (row.code == 1) (is_none row.parent) (and_parts (is_child_of types None row) true (ap (is_path types None) (sym alone) ∙ k)).0).1 one
    by false e (inl t) = absurd (let no : true ≡ false = sym t ∙ e in let none : ⊥ = cc in none)
    by false e (inr t) = Deep e (low_level types row.code e t)

pub stands_deep : (types : List SegType) (path : List Row) (row : Row) → Stands types path row → is_deep types row ≡ true
stands_deep types path row (Root e alone free one) = lt-ltb 0 (row_level types row) (omega (arith, one))
stands_deep types path row (Deep e lt) = lt-ltb 0 (row_level types row) (omega (arith, lt))

pub deep_next : (types : List SegType) (path : List Row) (row : Row) → list_all (is_deep types) path ≡ true → Stands types path row → list_all (is_deep types) (path_with (row_level types) path row) ≡ true
deep_next types path row h s =
    let kept : List Row = filter (λ above. nat_lt (row_level types above) (row_level types row)) path in
    list_all-append (is_deep types) kept (row ∷ [])
    ∙ and_from (list_all (is_deep types) kept) (is_deep types row && true) (deep_kept types path (row_level types row) h) (and_from (is_deep types row) true (stands_deep types path row s) refl)

pub root_path_key : (types : List SegType) (path : List Row) (row : Row) → path_with (row_level types) path row ≡ row ∷ [] → concatenated_key types (path_with (row_level types) path row) ≡ row_key types row
root_path_key types path row alone = ap (concatenated_key types) alone ∙ append-nil (row_key types row)

one_keyed : (types : List SegType) (path : List Row) (row : Row) → Stands types path row → is_keyed types (plain_element types (path_with (row_level types) path row) row) ≡ true
one_keyed types path row (Root e alone free one) =
    let next : List Row = path_with (row_level types) path row in
    let key : concatenated_key types next ≡ row_key types row = root_path_key types path row alone in
    let own : concatenated_key types next ≡ root_field types row.content =
    key ∙ ap (λ code. option_map_or (λ k. portion k.start k.bytes row.content) (option_and_then (λ (t : SegType). t.key) (type_of types code)) []) (eqb-true row.code 1 e) in
    let named : root_key_of types next ≡ concatenated_key types next = ap (root_key_of types) alone ∙ sym key in
    ap (λ b. cond b (row_level types row == 1 && bytes_eq (concatenated_key types next) (root_field types row.content) && bytes_eq (root_key_of types next) (concatenated_key types next)) (nat_lt 1 (row_level types row))) e
    ∙ and_from (row_level types row == 1 && bytes_eq (concatenated_key types next) (root_field types row.content)) (bytes_eq (root_key_of types next) (concatenated_key types next))
    (and_from (row_level types row == 1) (bytes_eq (concatenated_key types next) (root_field types row.content)) (eq-eqb (row_level types row) 1 one)
    ((bytes_eq-Decides (concatenated_key types next) (root_field types row.content)).1 own))
    ((bytes_eq-Decides (root_key_of types next) (concatenated_key types next)).1 named)
one_keyed types path row (Deep e lt) =
    let next : List Row = path_with (row_level types) path row in
    ap (λ b. cond b (row_level types row == 1 && bytes_eq (concatenated_key types next) (root_field types row.content) && bytes_eq (root_key_of types next) (concatenated_key types next)) (nat_lt 1 (row_level types row))) e
    ∙ lt-ltb 1 (row_level types row) lt

all_keyed : (types : List SegType) (path rows : List Row) → list_all (is_deep types) path ≡ true → are_paths types path rows ≡ true → list_all (is_keyed types) (shown types path rows) ≡ true
all_keyed types path [] h k = refl
all_keyed types path (row ∷ rows) h k =
    let next : List Row = path_with (row_level types) path row in
    let a = and_parts (is_path types None next) (are_paths types next rows) k in
    let s = stands types path row h a.0 in
    and_from (is_keyed types (plain_element types next row)) (list_all (is_keyed types) (shown types next rows)) (one_keyed types path row s) (all_keyed types next rows (deep_next types path row h s) a.1)

pub roots_are_keyed : RootsAreKeyed
roots_are_keyed schema rows h = all_keyed schema.types [] rows refl (below_parents schema rows h)

-- ---- records

-- a path begins with a root
abbrev begins : List Row → Bool
begins [] = true
begins (row ∷ path) = row.code == 1

record IsNext (types : List SegType) (path : List Row) (row : Row) : Type 0 where
  under : (row.code == 1 || bytes_eq (root_key_of types (path_with (row_level types) path row)) (root_key_of types path)) ≡ true
  begins : begins (path_with (row_level types) path row) ≡ true

next_under : (types : List SegType) (path : List Row) (row : Row) → begins path ≡ true → is_path types None (path_with (row_level types) path row) ≡ true → Stands types path row → IsNext types path row
next_under types path row h k (Root e alone free one) = record {
  under = or_left (row.code == 1) (bytes_eq (root_key_of types (path_with (row_level types) path row)) (root_key_of types path)) e;
  begins = ap begins alone ∙ e;
}
next_under types [] row h k (Deep e lt) =
    absurd (let no : true ≡ false = sym (and_parts (row.code == 1) (is_none row.parent) (and_parts (is_child_of types None row) true k).0).0 ∙ e in let none : ⊥ = cc in none)
next_under types (top ∷ path) row h k (Deep e lt) =
    let kept : List Row = filter (λ above. nat_lt (row_level types above) (row_level types row)) path in
    let on : nat_lt (row_level types top) (row_level types row) ≡ true = lt-ltb (row_level types top) (row_level types row) (omega (arith, lt, root_level types top.code h)) in
    let next : path_with (row_level types) (top ∷ path) row ≡ top ∷ (kept ++ row ∷ []) = ap (λ b. cond b (top ∷ kept) kept ++ row ∷ []) on in
    let same : root_key_of types (path_with (row_level types) (top ∷ path) row) ≡ row_key types top = ap (root_key_of types) next in
    record {
      under = or_right (row.code == 1) (bytes_eq (root_key_of types (path_with (row_level types) (top ∷ path) row)) (row_key types top)) ((bytes_eq-Decides (root_key_of types (path_with (row_level types) (top ∷ path) row)) (row_key types top)).1 same);
      begins = ap begins next ∙ h;
    }

all_together : (types : List SegType) (path rows : List Row) → list_all (is_deep types) path ≡ true → begins path ≡ true → are_paths types path rows ≡ true → stand_together (root_key_of types path) (shown types path rows) ≡ true
all_together types path [] h b k = refl
all_together types path (row ∷ rows) h b k =
    let next : List Row = path_with (row_level types) path row in
    let a = and_parts (is_path types None next) (are_paths types next rows) k in
    let s = stands types path row h a.0 in
    let n = next_under types path row b a.0 s in
    and_from (row.code == 1 || bytes_eq (root_key_of types next) (root_key_of types path)) (stand_together (root_key_of types next) (shown types next rows)) n.under
    (all_together types next rows (deep_next types path row h s) n.begins a.1)

pub records_stand_together : RecordsStandTogether
records_stand_together schema rows h = all_together schema.types [] rows refl refl (below_parents schema rows h)
