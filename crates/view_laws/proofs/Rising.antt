-- The roots of a view rise in the root order.
use Rattle.std.proofs.Common.{◌≡◌, ℕ, ◌==◌, Bool, true, false, not, cond, ◌&&◌, ◌||◌, List, [], ◌∷◌, Option, None, Some, refl, sym, ap, ◌∙◌}
use Rattle.std.specs.Prelude.{is_none, option_and_then}
use Rattle.std.specs.List.{list_all}
use Rattle.std.specs.Option.{option_map_or}
use Rattle.std.specs.Ordering.{is_lt, is_le}
use Rattle.std.proofs.lemmas.Bool.{and_parts, and_from, eqb-true, eq-eqb, true≢false}
use Rattle.hal_base.specs.declared.place.Ilk.{Ilk}
use Rattle.hal_schema.specs.declared.row.Row.{Row}
use Rattle.hal_schema.specs.declared.schema.Schema.{Schema}
use Rattle.hal_schema.specs.declared.schema.SegType.{SegType}
use Rattle.hal_schema.specs.Facts.{IsKept, SchemasAreKept}
use Rattle.hal_schema.specs.SegType.{type_of}
use Rattle.hal_schema.specs.Keys.{key_cmp}
use Rattle.hal_schema.specs.Roots.{root_cmp}
use Rattle.hal_schema.specs.Row.{are_twins, row_key, row_level, same_parent}
use Rattle.hal_schema.specs.Paths.{path_with, concatenated_key}
use Rattle.hal_schema.specs.Forest.{all_pairs, has_unique_key, in_twin_order, is_forest, is_path, keys_are_placed, may_follow, rows_are_named, rows_are_below_parents, twin_cmp, twins_rise, types_rise}
use Rattle.position_state.specs.declared.spot.Spot.{Spot}
use Rattle.position_state.specs.View.{plain_element}
use Rattle.view_laws.specs.Views.{RootsRise, in_root_order}
use Rattle.view_laws.proofs.Roots.{Stands, Root, Deep, are_paths, below_parents, deep_next, is_deep, root_path_key, shown, stands}

unique : (schema : Schema) → IsKept schema → has_unique_key schema.types 1 ≡ true
unique schema k =
    let r = k.root_key in
    ap (λ (o : Option SegType). option_map_or (λ k. k.unique) (option_and_then (λ (t : SegType). t.key) o) false) r.2 ∙ ap (λ o. option_map_or (λ k. k.unique) o false) r.3 ∙ r.4

no_parents : (a b : Option Ilk) → is_none a ≡ true → is_none b ≡ true → same_parent a b ≡ true
no_parents None None h k = refl
no_parents None (Some b) h k = absurd (let no : ⊥ = cc in no)
no_parents (Some a) b h k = absurd (let no : ⊥ = cc in no)

-- of two roots in twin order the first is lower
rises_by : (schema : Schema) (a b : Row) → has_unique_key schema.types 1 ≡ true → (a.code == 1) ≡ true → (b.code == 1) ≡ true → is_none a.parent ≡ true → is_none b.parent ≡ true → in_twin_order schema a b ≡ true
    → is_lt (root_cmp schema (row_key schema.types a) (row_key schema.types b)) ≡ true
rises_by schema a b u h k f g t =
    let one : a.code ≡ 1 = eqb-true a.code 1 h in
    let twins : are_twins a b ≡ true = and_from (a.code == b.code) (same_parent a.parent b.parent) (eq-eqb a.code b.code (one ∙ sym (eqb-true b.code 1 k))) (no_parents a.parent b.parent f g) in
    let follows : may_follow schema a b ≡ true = ap (λ c. not c || may_follow schema a b) (sym twins) ∙ t in
    let u' : has_unique_key schema.types a.code ≡ true = ap (has_unique_key schema.types) one ∙ u in
    ap (λ c. is_lt (cond c (root_cmp schema (row_key schema.types a) (row_key schema.types b)) (key_cmp (row_key schema.types a) (row_key schema.types b)))) (sym h)
    ∙ ap (λ c. cond c (is_lt (twin_cmp schema a b)) (is_le (twin_cmp schema a b))) (sym u') ∙ follows

-- an element of later rows is in root order behind that of a root
in_order : (schema : Schema) (above path : List Row) (a b : Row) → has_unique_key schema.types 1 ≡ true → Stands schema.types above a → Stands schema.types path b → in_twin_order schema a b ≡ true
    → in_root_order schema (plain_element schema.types (path_with (row_level schema.types) above a) a) (plain_element schema.types (path_with (row_level schema.types) path b) b) ≡ true
in_order schema above path a b u (Deep e lt) s t =
    let x : List ℕ = concatenated_key schema.types (path_with (row_level schema.types) above a) in
    let y : List ℕ = concatenated_key schema.types (path_with (row_level schema.types) path b) in
    ap (λ c. not (c && b.code == 1) || is_lt (root_cmp schema x y)) e
in_order schema above path a b u (Root e alone free one) (Deep f lt) t =
    let x : List ℕ = concatenated_key schema.types (path_with (row_level schema.types) above a) in
    let y : List ℕ = concatenated_key schema.types (path_with (row_level schema.types) path b) in
    ap (λ c. not (c && b.code == 1) || is_lt (root_cmp schema x y)) e ∙ ap (λ c. not c || is_lt (root_cmp schema x y)) f
in_order schema above path a b u (Root e alone free one) (Root f lone none low) t =
    let x : List ℕ = concatenated_key schema.types (path_with (row_level schema.types) above a) in
    let y : List ℕ = concatenated_key schema.types (path_with (row_level schema.types) path b) in
    ap (λ c. not (c && b.code == 1) || is_lt (root_cmp schema x y)) e ∙ ap (λ c. not c || is_lt (root_cmp schema x y)) f
    ∙ ap (λ k. is_lt (root_cmp schema k y)) (root_path_key schema.types above a alone) ∙ ap (λ k. is_lt (root_cmp schema (row_key schema.types a) k)) (root_path_key schema.types path b lone)
    ∙ rises_by schema a b u e f free none t

later_rise : (schema : Schema) (above : List Row) (a : Row) (path rows : List Row) → has_unique_key schema.types 1 ≡ true → Stands schema.types above a → list_all (is_deep schema.types) path ≡ true → are_paths schema.types path rows ≡ true
    → list_all (in_twin_order schema a) rows ≡ true → list_all (in_root_order schema (plain_element schema.types (path_with (row_level schema.types) above a) a)) (shown schema.types path rows) ≡ true
later_rise schema above a path [] u s h k t = refl
later_rise schema above a path (row ∷ rows) u s h k t =
    let types : List SegType = schema.types in
    let next : List Row = path_with (row_level types) path row in
    let x : Spot = plain_element types (path_with (row_level types) above a) a in
    let p = and_parts (is_path types None next) (are_paths types next rows) k in
    let q = and_parts (in_twin_order schema a row) (list_all (in_twin_order schema a) rows) t in
    let r = stands types path row h p.0 in
    and_from (in_root_order schema x (plain_element types next row)) (list_all (in_root_order schema x) (shown types next rows)) (in_order schema above path a row u s r q.0)
    (later_rise schema above a next rows u s (deep_next types path row h r) p.1 q.1)

all_rise : (schema : Schema) (path rows : List Row) → has_unique_key schema.types 1 ≡ true → list_all (is_deep schema.types) path ≡ true → are_paths schema.types path rows ≡ true → all_pairs (in_twin_order schema) rows ≡ true
    → all_pairs (in_root_order schema) (shown schema.types path rows) ≡ true
all_rise schema path [] u h k t = refl
all_rise schema path (row ∷ rows) u h k t =
    let types : List SegType = schema.types in
    let next : List Row = path_with (row_level types) path row in
    let x : Spot = plain_element types next row in
    let p = and_parts (is_path types None next) (are_paths types next rows) k in
    let q = and_parts (list_all (in_twin_order schema row) rows) (all_pairs (in_twin_order schema) rows) t in
    let s = stands types path row h p.0 in
    let d = deep_next types path row h s in
    and_from (list_all (in_root_order schema x) (shown types next rows)) (all_pairs (in_root_order schema) (shown types next rows)) (later_rise schema path row next rows u s d p.1 q.0) (all_rise schema next rows u d p.1 q.1)

twins_in_order : (schema : Schema) (rows : List Row) → is_forest schema rows ≡ true → twins_rise schema rows ≡ true
twins_in_order schema rows h =
    let a = and_parts (rows_are_named schema.types rows && rows_are_below_parents schema.types rows && types_rise rows && twins_rise schema rows) (keys_are_placed schema rows) h in
    (and_parts (rows_are_named schema.types rows && rows_are_below_parents schema.types rows && types_rise rows) (twins_rise schema rows) a.0).1

pub roots_rise : SchemasAreKept → RootsRise
roots_rise kept schema rows h = all_rise schema [] rows (unique schema (kept schema)) refl (below_parents schema rows h) (twins_in_order schema rows h)
