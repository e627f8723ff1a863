-- The children of an element of the view are the rows that name its row as their parent.
use Rattle.std.proofs.Common.{◌≡◌, ℕ, ◌+◌, ◌==◌, Bool, true, false, ◌||◌, ◌⊎◌, inl, inr, List, [], ◌∷◌, ◌++◌, length, Option, None, Some, refl, sym, ap, subst, ◌∙◌, arith}
use Rattle.std.specs.Prelude.{nat_lt, filter, is_none}
use Rattle.std.specs.List.{list_any}
use Rattle.std.proofs.lemmas.Bool.{and_parts, eqb-true, or_cases}
use Rattle.hal_schema.specs.declared.row.Row.{Row}
use Rattle.hal_schema.specs.declared.schema.Schema.{Schema}
use Rattle.hal_schema.specs.Facts.{IsKept}
use Rattle.hal_schema.specs.Forest.{is_child_of, is_path}
use Rattle.hal_schema.specs.Paths.{path_after, path_with}
use Rattle.hal_schema.specs.SegType.{parent_code}
use Rattle.hal_schema.proofs.RowNames.{name_is, name_from}
use Rattle.hal_schema.specs.Row.{row_level, same_name, same_parent}
use Rattle.forest_laws.proofs.Lists.{Among, among_append}
use Rattle.forest_laws.proofs.Names.{one_of_name, parents_are, parents_from, same_some}
use Rattle.forest_laws.proofs.Parents.{EndsUnder, Parts, child_level, child_parent, path_among, path_end}
use Rattle.forest_laws.proofs.PathLaws.{path_rows}
use Rattle.call_changes.proofs.Replacing.{same_bool}

-- along a path each row is one level deeper
path_levels : (schema : Schema) → IsKept schema → (above : Row) (rows : List Row) (row : Row) → is_path schema.types (Some above) (rows ++ row ∷ []) ≡ true → row_level schema.types row ≡ row_level schema.types above + length rows + 1
path_levels schema kept above [] row h = omega (arith, child_level schema kept above row (and_parts (is_child_of schema.types (Some above) row) true h).0)
path_levels schema kept above (x ∷ rows) row h =
    let a = and_parts (is_child_of schema.types (Some above) x) (is_path schema.types (Some x) (rows ++ row ∷ [])) h in
    omega (arith, child_level schema kept above x a.0, path_levels schema kept x rows row a.1)

-- the row of a path that is one level higher than its last is that one's parent
path_parent : (schema : Schema) → IsKept schema → (up : Option Row) (rows : List Row) (row x : Row) → is_path schema.types up (rows ++ row ∷ []) ≡ true → Among x rows → row_level schema.types x + 1 ≡ row_level schema.types row
    → is_child_of schema.types (Some x) row ≡ true
path_parent schema kept up [] row x h among one = absurd among
path_parent schema kept up (y ∷ rows) row x h (inr among) one = path_parent schema kept (Some y) rows row x (and_parts (is_child_of schema.types up y) (is_path schema.types (Some y) (rows ++ row ∷ [])) h).1 among one
path_parent schema kept up (y ∷ rows) row x h (inl is) one = by rows (and_parts (is_child_of schema.types up y) (is_path schema.types (Some y) (rows ++ row ∷ [])) h).1
  where
    by : (zs : List Row) → is_path schema.types (Some y) (zs ++ row ∷ []) ≡ true → is_child_of schema.types (Some x) row ≡ true
    by [] k = sym (ap (λ (r : Row). is_child_of schema.types (Some r) row) is) ∙ (and_parts (is_child_of schema.types (Some y) row) true k).0
    by (z ∷ zs) k = absurd (omega (arith, path_levels schema kept y (z ∷ zs) row k, ap (row_level schema.types) is))

any_among : {X : Type 0} (test : X → Bool) (xs : List X) → list_any test xs ≡ true → (x : X) × Among x xs × (test x ≡ true)
any_among test [] h = absurd (let no : ⊥ = cc in no)
any_among {X} test (x ∷ xs) h = by (or_cases (test x) (list_any test xs) h) (any_among test xs)
  where
    by : (test x ≡ true) ⊎ (list_any test xs ≡ true) → (list_any test xs ≡ true → (x : X) × Among x xs × (test x ≡ true)) → (y : X) × Among y (x ∷ xs) × (test y ≡ true)
    by (inl t) rest = (x, inl refl, t)
    by (inr more) rest = let r = rest more in (r.0, inr r.1, r.2)

any_at : {X : Type 0} (test : X → Bool) (xs ys : List X) (x : X) → Among x xs → test x ≡ true → list_any test (xs ++ ys) ≡ true
any_at test [] ys x among h = absurd among
any_at test (z ∷ zs) ys x (inl is) h = ap (λ b. b || list_any test (zs ++ ys)) (ap test is ∙ h)
any_at test (z ∷ zs) ys x (inr among) h = ap (λ b. test z || b) (any_at test zs ys x among h) ∙ or_true (test z)
  where
    or_true : (b : Bool) → (b || true) ≡ true
    or_true true = refl
    or_true false = refl

-- a row of a type has a row on its path, one level higher, exactly where it is that row's child
pub child_same : (schema : Schema) → IsKept schema → (rows : List Row) → Parts schema rows → (above : Row) → Among above rows → (front back : List Row) (row : Row) → rows ≡ front ++ row ∷ back
    → parent_code schema.types row.code ≡ Some above.code
    → list_any (λ (r : Row). same_name r.name above.name) (path_with (row_level schema.types) (path_after (row_level schema.types) [] front) row) ≡ same_parent row.parent (Some above.name)
child_same schema kept rows parts above there front back row split code =
    by (path_end schema.types None xs row path)
  where
    level : Row → ℕ
    level = row_level schema.types

    xs : List Row
    xs = filter (λ (r : Row). nat_lt (level r) (level row)) (path_after level [] front)

    path : is_path schema.types None (xs ++ row ∷ []) ≡ true
    path = path_among schema front back row (subst (Parts schema) split parts)

    one : level row ≡ level above + 1
    one = (kept.below above.code row.code code).level

    is_above : (y : Row) → Among y (xs ++ row ∷ []) → same_name y.name above.name ≡ true → y ≡ above
    is_above y among h =
        one_of_name rows y above parts.named (subst (Among y) (sym split) (path_rows level front back row y among)) there (name_is y.name above.name h)

    under : (y : Row) → Among y xs ⊎ Among y (row ∷ []) → y ≡ above → same_parent row.parent (Some above.name) ≡ true
    under y (inl among) is =
        let up : row.parent ≡ Some y.name = child_parent schema.types y row (path_parent schema kept None xs row y path among (omega (arith, one, ap level is))) in
        parents_from row.parent (Some above.name) (up ∙ ap (λ (r : Row). Some r.name) is)
    under y (inr (inl same)) is = absurd (omega (arith, one, ap level same, ap level is))
    under y (inr (inr never)) is = absurd never

    by : EndsUnder schema.types None xs row → list_any (λ (r : Row). same_name r.name above.name) (xs ++ row ∷ []) ≡ same_parent row.parent (Some above.name)
    by (inl root) =
        let is : row.code ≡ 1 = eqb-true row.code 1 (and_parts (row.code == 1) (is_none row.parent) root.0).0 in
        absurd (let no : None ≡ Some above.code = sym kept.root ∙ ap (parent_code schema.types) (sym is) ∙ code in let none : ⊥ = cc in none)
    by (inr more) =
        same_bool (list_any (λ (r : Row). same_name r.name above.name) (xs ++ row ∷ [])) (same_parent row.parent (Some above.name))
        (λ h. let y = any_among (λ (r : Row). same_name r.name above.name) (xs ++ row ∷ []) h in under y.0 (among_append y.0 xs (row ∷ []) y.1) (is_above y.0 y.1 y.2))
        (λ h. any_at (λ (r : Row). same_name r.name above.name) xs (row ∷ []) more.0 more.1
        (name_from more.0.name above.name (same_some more.0.name above.name (sym (child_parent schema.types more.0 row more.2) ∙ parents_are row.parent (Some above.name) h))))
