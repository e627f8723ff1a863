-- Names and parents of rows, as equations.
use Rattle.std.proofs.Common.{◌≡◌, ℕ, ◌==◌, Bool, true, false, not, List, [], ◌∷◌, ◌++◌, Option, Some, None, ◌⊎◌, inl, inr, refl, sym, ap, subst, ◌∙◌}
use Rattle.std.specs.Prelude.{is_none}
use Rattle.std.specs.List.{list_all}
use Rattle.std.specs.Option.{option_map_or}
use Rattle.std.proofs.lemmas.Bool.{and_parts, and_from, eqb-true, eq-eqb, not-true, true≢false}
use Rattle.hal_base.specs.declared.place.Ilk.{Ilk}
use Rattle.hal_schema.specs.declared.row.Row.{Row}
use Rattle.hal_schema.specs.declared.schema.SegType.{SegType}
use Rattle.hal_schema.specs.SegType.{parent_code, is_parent_code}
use Rattle.hal_schema.specs.Row.{same_name, same_parent, is_parent, are_twins}
use Rattle.hal_schema.specs.Forest.{all_pairs, names_apart}
use Rattle.hal_schema.proofs.RowNames.{name_is, name_itself, name_from}
use Rattle.forest_laws.proofs.Lists.{Among, among_passes, pairs_at, all_weaker}

pub parents_are : (a b : Option Ilk) → same_parent a b ≡ true → a ≡ b
parents_are None None h = refl
parents_are None (Some b) h = cc
parents_are (Some a) None h = cc
parents_are (Some a) (Some b) h = ap (λ (c : Ilk). Some c) (name_is a b h)

parent_itself : (a : Option Ilk) → same_parent a a ≡ true
parent_itself None = refl
parent_itself (Some a) = name_itself a

pub parents_from : (a b : Option Ilk) → a ≡ b → same_parent a b ≡ true
parents_from a b e = subst (λ (c : Option Ilk). same_parent a c ≡ true) e (parent_itself a)

named_by : (name : Ilk) (o : Option Ilk) → option_map_or (same_name name) o false ≡ true → o ≡ Some name
named_by name None h = cc
named_by name (Some b) h = ap (λ (c : Ilk). Some c) (sym (name_is name b h))

pub parent_is : (above row : Row) → is_parent above row ≡ true → row.parent ≡ Some above.name
parent_is above row h = named_by above.name row.parent h

pub parent_from : (above row : Row) → row.parent ≡ Some above.name → is_parent above row ≡ true
parent_from above row e = ap (λ (o : Option Ilk). option_map_or (same_name above.name) o false) e ∙ name_itself above.name

pub same_some : {X : Type 0} (a b : X) → Some a ≡ Some b → a ≡ b
same_some a b e = cc

pub none_is : {X : Type 0} (o : Option X) → is_none o ≡ true → o ≡ None
none_is None h = refl
none_is (Some x) h = cc

code_is : (above : ℕ) (o : Option ℕ) → option_map_or (λ parent. parent == above) o false ≡ true → o ≡ Some above
code_is above None h = cc
code_is above (Some parent) h = ap (λ (n : ℕ). Some n) (eqb-true parent above h)

pub parent_code_is : (types : List SegType) (above code : ℕ) → is_parent_code types above code ≡ true → parent_code types code ≡ Some above
parent_code_is types above code h = code_is above (parent_code types code) h

pub twins_are : (a b : Row) → are_twins a b ≡ true → (a.code ≡ b.code) × (a.parent ≡ b.parent)
twins_are a b h =
    let p = and_parts (a.code == b.code) (same_parent a.parent b.parent) h in
    (eqb-true a.code b.code p.0, parents_are a.parent b.parent p.1)

pub twins_from : (a b : Row) → a.code ≡ b.code → a.parent ≡ b.parent → are_twins a b ≡ true
twins_from a b e f = and_from (a.code == b.code) (same_parent a.parent b.parent) (eq-eqb a.code b.code e) (parents_from a.parent b.parent f)

-- no two of a list whose names differ have one name
pub apart_names : (a b : Row) → names_apart a b ≡ true → a.name ≡ b.name → ⊥
apart_names a b h e = absurd (true≢false (sym (name_from a.name b.name e) ∙ not-true (same_name a.name b.name) h))

pub no_other : (front behind : List Row) (row other : Row) → all_pairs names_apart (front ++ row ∷ behind) ≡ true → Among other front ⊎ Among other behind → other.name ≡ row.name → ⊥
no_other front behind row other h (inl a) e = apart_names other row (among_passes (λ r. names_apart r row) other front a (pairs_at names_apart front behind row h).before) e
no_other front behind row other h (inr b) e = apart_names row other (among_passes (names_apart row) other behind b (pairs_at names_apart front behind row h).behind) (sym e)

pub one_of_name : (rows : List Row) (a b : Row) → all_pairs names_apart rows ≡ true → Among a rows → Among b rows → a.name ≡ b.name → a ≡ b
one_of_name [] a b h x y e = absurd x
one_of_name (row ∷ rows) a b h (inl p) (inl q) e = sym p ∙ q
one_of_name (row ∷ rows) a b h (inl p) (inr y) e =
    absurd (apart_names row b (among_passes (names_apart row) b rows y (and_parts (list_all (names_apart row) rows) (all_pairs names_apart rows) h).0) (ap (λ (r : Row). r.name) p ∙ e))
one_of_name (row ∷ rows) a b h (inr x) (inl q) e =
    absurd (apart_names row a (among_passes (names_apart row) a rows x (and_parts (list_all (names_apart row) rows) (all_pairs names_apart rows) h).0) (ap (λ (r : Row). r.name) q ∙ sym e))
one_of_name (row ∷ rows) a b h (inr x) (inr y) e = one_of_name rows a b (and_parts (list_all (names_apart row) rows) (all_pairs names_apart rows) h).1 x y e

-- rows behind the named one have other names
pub others_behind : (front back : List Row) (row : Row) (name : Ilk) → all_pairs names_apart (front ++ row ∷ back) ≡ true → same_name row.name name ≡ true → list_all (λ r. not (same_name r.name name)) back ≡ true
others_behind front back row name apart named =
    all_weaker (names_apart row) (λ r. not (same_name r.name name)) (λ r h. other r h) back (pairs_at names_apart front back row apart).behind
  where
    other : (r : Row) → names_apart row r ≡ true → not (same_name r.name name) ≡ true
    other r h = by (same_name r.name name) refl
      where
        by : (b : Bool) → same_name r.name name ≡ b → not b ≡ true
        by true f = absurd (apart_names row r h (name_is row.name name named ∙ sym (name_is r.name name f)))
        by false f = refl
