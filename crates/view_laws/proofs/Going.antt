-- On the path to an element each type is the parent of the next.
use Rattle.std.proofs.Common.{◌≡◌, ℕ, ◌==◌, Bool, true, false, cond, ◌&&◌, List, [], ◌∷◌, ◌++◌, Option, None, Some, refl, sym, ap, ◌∙◌}
use Rattle.std.specs.Prelude.{filter, is_none, nat_lt}
use Rattle.std.specs.List.{list_all}
use Rattle.std.proofs.lemmas.Bool.{and_parts, and_from}
use Rattle.hal_schema.specs.declared.row.Row.{Row}
use Rattle.hal_schema.specs.declared.schema.Schema.{Schema}
use Rattle.hal_schema.specs.declared.schema.SegType.{SegType}
use Rattle.hal_schema.specs.SegType.{is_parent_code}
use Rattle.hal_schema.specs.Row.{is_parent, row_level}
use Rattle.hal_schema.specs.Paths.{path_with, with_paths}
use Rattle.hal_schema.specs.Forest.{is_child_of, is_path}
use Rattle.position_state.specs.declared.spot.Spot.{Spot}
use Rattle.position_state.specs.View.{plain_element}
use Rattle.view_laws.specs.Views.{TypesGoDown, goes_down, is_type_below}
use Rattle.view_laws.proofs.Roots.{are_paths, below_parents, shown}

abbrev level : Spot → ℕ
level spot = spot.level

-- a path of elements and one of rows are of the same types
abbrev Alike : List SegType → List Spot → List Row → Type 0
Alike types [] [] = Unit {0}
Alike types [] (row ∷ rows) = ⊥
Alike types (x ∷ xs) [] = ⊥
Alike types (x ∷ xs) (row ∷ rows) = (x.code ≡ row.code) × (x.level ≡ row_level types row) × Alike types xs rows

alike_joined : (types : List SegType) (xs : List Spot) (rows above : List Row) (row : Row) (key : List Row) → Alike types xs rows → Alike types (xs ++ plain_element types key row ∷ []) (rows ++ row ∷ [])
alike_joined types [] [] above row key h = (refl, refl, tt)
alike_joined types [] (y ∷ ys) above row key h = absurd h
alike_joined types (x ∷ xs) [] above row key h = absurd h
alike_joined types (x ∷ xs) (y ∷ ys) above row key h = (h.0, h.1, alike_joined types xs ys above row key h.2)

alike_kept : (types : List SegType) (l : ℕ) (xs : List Spot) (rows : List Row) → Alike types xs rows → Alike types (filter (λ (x : Spot). nat_lt x.level l) xs) (filter (λ row. nat_lt (row_level types row) l) rows)
alike_kept types l [] [] h = tt
alike_kept types l [] (y ∷ ys) h = absurd h
alike_kept types l (x ∷ xs) [] h = absurd h
alike_kept types l (x ∷ xs) (y ∷ ys) h = by (nat_lt x.level l) (nat_lt (row_level types y) l) (ap (λ n. nat_lt n l) h.1) (alike_kept types l xs ys h.2)
  where
    xs' : List Spot
    xs' = filter (λ (x : Spot). nat_lt x.level l) xs

    ys' : List Row
    ys' = filter (λ row. nat_lt (row_level types row) l) ys

    by : (a b : Bool) → a ≡ b → Alike types xs' ys' → Alike types (cond a (x ∷ xs') xs') (cond b (y ∷ ys') ys')
    by true true e rest = (h.0, h.1, rest)
    by true false e rest = absurd (let no : ⊥ = cc in no)
    by false true e rest = absurd (let no : ⊥ = cc in no)
    by false false e rest = rest

type_below : (types : List SegType) (above : Option Row) (row : Row) → is_child_of types above row ≡ true → is_type_below types (elim above as (λ _. Option ℕ) [ None ↦ None | Some r ↦ Some r.code ]) row.code ≡ true
type_below types None row h = (and_parts (row.code == 1) (is_none row.parent) h).0
type_below types (Some above) row h = (and_parts (is_parent above row) (is_parent_code types above.code row.code) h).1

one_down : (types : List SegType) (above : Option Row) (xs : List Spot) (rows : List Row) → Alike types xs rows → is_path types above rows ≡ true → goes_down types (elim above as (λ _. Option ℕ) [ None ↦ None | Some r ↦ Some r.code ]) xs ≡ true
one_down types above [] rows a h = refl
one_down types above (x ∷ xs) [] a h = absurd a
one_down types above (x ∷ xs) (y ∷ ys) a h =
    let p = and_parts (is_child_of types above y) (is_path types (Some y) ys) h in
    let o : Option ℕ = elim above as (λ _. Option ℕ) [ None ↦ None | Some r ↦ Some r.code ] in
    and_from (is_type_below types o x.code) (goes_down types (Some x.code) xs) (ap (is_type_below types o) a.0 ∙ type_below types above y p.0)
    (ap (λ c. goes_down types (Some c) xs) a.0 ∙ one_down types (Some y) xs ys a.2 p.1)

all_down : (types : List SegType) (xs : List Spot) (path rows : List Row) → Alike types xs path → are_paths types path rows ≡ true → list_all (λ (p : List Spot × Spot). goes_down types None p.0) (with_paths level xs (shown types path rows)) ≡ true
all_down types xs path [] a k = refl
all_down types xs path (row ∷ rows) a k =
    let next : List Row = path_with (row_level types) path row in
    let x : Spot = plain_element types next row in
    let ys : List Spot = path_with level xs x in
    let p = and_parts (is_path types None next) (are_paths types next rows) k in
    let alike : Alike types ys next =
    alike_joined types (filter (λ (y : Spot). nat_lt y.level x.level) xs) (filter (λ y. nat_lt (row_level types y) (row_level types row)) path) path row next (alike_kept types (row_level types row) xs path a) in
    and_from (goes_down types None ys) (list_all (λ (p : List Spot × Spot). goes_down types None p.0) (with_paths level ys (shown types next rows))) (one_down types None ys next alike p.0) (all_down types ys next rows alike p.1)

pub types_go_down : TypesGoDown
types_go_down schema rows h = all_down schema.types [] [] rows tt (below_parents schema rows h)
