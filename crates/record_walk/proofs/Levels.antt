-- How deep the rows of a tree are.
use Rattle.std.proofs.Common.{◌≡◌, ℕ, suc, ◌+◌, ◌≤◌, ◌==◌, nat_le, Bool, true, false, cond, ◌&&◌, List, [], ◌∷◌, ◌++◌, map, Option, None, Some, option_and_then, refl, sym, ap, ◌∙◌, arith}
use Rattle.std.specs.Prelude.{filter}
use Rattle.std.specs.List.{list_all, enumerate_from, slice_get, AllByRecursion}
use Rattle.std.specs.Option.{option_map_or}
use Rattle.std.proofs.lemmas.Bool.{and_parts, and_from, eqb-true, leb-true, le-leb, false≢true}
use Rattle.hal_base.specs.declared.place.Ilk.{Ilk}
use Rattle.hal_schema.specs.declared.schema.SegType.{SegType}
use Rattle.hal_schema.specs.SegType.{type_of, parent_code, level_of, is_child}
use Rattle.hal_schema.specs.Row.{row_level}
use Rattle.forest_laws.proofs.Lists.{all_append}
use Rattle.record_walk.specs.Tree.{Occurrence, Twins, no_segment, segment, Chains, no_chain, chain, child_codes, are_of, are_chains_of, are_roots}
use Rattle.record_walk.specs.Listing.{Placed, placed, list_of, list_in}
use Rattle.record_walk.specs.Spans.{starts_upto}

-- a type is one level below its parent
abbrev pub Deepens : List SegType → Type 0
Deepens types = (above code : ℕ) → parent_code types code ≡ Some above → level_of types code ≡ level_of types above + 1

-- these types are all of one level
abbrev pub AtLevel : List SegType → ℕ → List ℕ → Type 0
AtLevel types level codes = AllByRecursion (λ c. level_of types c ≡ level) codes

pub child_is : (parent : Option ℕ) (code : ℕ) → option_map_or (λ p. p == code) parent false ≡ true → parent ≡ Some code
child_is None code h = absurd (false≢true h)
child_is (Some p) code h = ap (λ (n : ℕ). Some n) (eqb-true p code h)

codes_level : (types : List SegType) → Deepens types → (code n : ℕ) (ts : List SegType) → ((k : ℕ) (t : SegType) → slice_get ts k ≡ Some t → type_of types (n + k) ≡ Some t)
    → AtLevel types (level_of types code + 1) (map (λ (p : ℕ × SegType). p.0) (filter (λ (p : ℕ × SegType). is_child code p.1) (enumerate_from n ts)))
codes_level types deepens code n [] h = tt
codes_level types deepens code n (t ∷ ts) h =
    by (is_child code t) refl
    (codes_level types deepens code (n + 1) ts (λ k u e. let same : n + 1 + k ≡ n + suc k = omega arith in ap (type_of types) same ∙ h (suc k) u e))
  where
    by : (b : Bool) → is_child code t ≡ b → AtLevel types (level_of types code + 1) (map (λ (p : ℕ × SegType). p.0) (filter (λ (p : ℕ × SegType). is_child code p.1) (enumerate_from (n + 1) ts)))
        → AtLevel types (level_of types code + 1)
        (map (λ (p : ℕ × SegType). p.0) (cond b ((n, t) ∷ filter (λ (p : ℕ × SegType). is_child code p.1) (enumerate_from (n + 1) ts)) (filter (λ (p : ℕ × SegType). is_child code p.1) (enumerate_from (n + 1) ts))))
    by false e all = all
    by true e all =
        let same : n + 0 ≡ n = omega arith in
        let is : type_of types n ≡ Some t = ap (type_of types) (sym same) ∙ h 0 t refl in
        let parent : parent_code types n ≡ Some code = ap (λ (o : Option SegType). option_and_then (λ u. u.parent) o) is ∙ child_is t.parent code e in
        (deepens code n parent, all)

pub children_level : (types : List SegType) → Deepens types → (code : ℕ) → AtLevel types (level_of types code + 1) (child_codes types code)
children_level types deepens code = codes_level types deepens code 1 types (λ k t e. let same : 1 + k ≡ suc k = omega arith in ap (type_of types) same ∙ e)

-- what a typed segment is
pub record Typed (types : List SegType) (code : ℕ) (s : Occurrence) (below : Chains) (next : Twins) : Type 0 where
  pub code_is : s.code ≡ code
  pub under : are_chains_of types (child_codes types code) below ≡ true
  pub later : are_of types code next ≡ true

pub typed : (types : List SegType) (code : ℕ) (s : Occurrence) (below : Chains) (next : Twins) → are_of types code (segment s below next) ≡ true → Typed types code s below next
typed types code s below next h =
    let p = and_parts (s.code == code && are_chains_of types (child_codes types code) below) (are_of types code next) h in
    let q = and_parts (s.code == code) (are_chains_of types (child_codes types code) below) p.0 in
    record { code_is = eqb-true s.code code q.0; under = q.1; later = p.1 }

-- each row is at least so deep
abbrev pub is_deep : List SegType → ℕ → Placed → Bool
is_deep types n p = nat_le n (row_level types p.row)

mutual
  pub deep : (types : List SegType) → Deepens types → (n code : ℕ) (parent : Option Ilk) (twins : Twins) → are_of types code twins ≡ true → n ≤ level_of types code → list_all (is_deep types n) (list_of parent twins) ≡ true
  deep types deepens n code parent no_segment h le = refl
  deep types deepens n code parent (segment s below next) h le =
      let t = typed types code s below next h in
      let level = ap (level_of types) t.code_is in
      and_from (is_deep types n (placed parent s)) (list_all (is_deep types n) (list_in (Some s.name) below ++ list_of parent next)) (le-leb n (level_of types s.code) (omega (arith, le, level)))
      (all_append (is_deep types n) (list_in (Some s.name) below) (list_of parent next)
      (deep_in types deepens n (level_of types code + 1) (child_codes types code) (children_level types deepens code) (Some s.name) below t.under (omega (arith, le)))
      (deep types deepens n code parent next t.later le))

  pub deep_in : (types : List SegType) → Deepens types → (n level : ℕ) (codes : List ℕ) → AtLevel types level codes → (parent : Option Ilk) (chains : Chains) → are_chains_of types codes chains ≡ true → n ≤ level
      → list_all (is_deep types n) (list_in parent chains) ≡ true
  deep_in types deepens n level [] all parent no_chain h le = refl
  deep_in types deepens n level [] all parent (chain twins more) h le = absurd (false≢true h)
  deep_in types deepens n level (code ∷ codes) all parent no_chain h le = refl
  deep_in types deepens n level (code ∷ codes) all parent (chain twins more) h le =
      let p = and_parts (are_of types code twins) (are_chains_of types codes more) h in
      let same = all.0 in
      all_append (is_deep types n) (list_of parent twins) (list_in parent more) (deep types deepens n code parent twins p.0 (omega (arith, le, same))) (deep_in types deepens n level codes (all.1) parent more p.1 le)

-- ---- where a list begins

pub starts_append : (types : List SegType) (n : ℕ) (xs ys : List Placed) → starts_upto types n xs ≡ true → starts_upto types n ys ≡ true → starts_upto types n (xs ++ ys) ≡ true
starts_append types n [] ys a b = b
starts_append types n (x ∷ xs) ys a b = a

pub starts_of : (types : List SegType) (n code : ℕ) (parent : Option Ilk) (twins : Twins) → are_of types code twins ≡ true → level_of types code ≤ n → starts_upto types n (list_of parent twins) ≡ true
starts_of types n code parent no_segment h le = refl
starts_of types n code parent (segment s below next) h le =
    let t = typed types code s below next h in
    let level = ap (level_of types) t.code_is in
    le-leb (level_of types s.code) n (omega (arith, le, level))

pub starts_in : (types : List SegType) (n level : ℕ) (codes : List ℕ) → AtLevel types level codes → (parent : Option Ilk) (chains : Chains) → are_chains_of types codes chains ≡ true → level ≤ n → starts_upto types n (list_in parent chains) ≡ true
starts_in types n level [] all parent no_chain h le = refl
starts_in types n level [] all parent (chain twins more) h le = absurd (false≢true h)
starts_in types n level (code ∷ codes) all parent no_chain h le = refl
starts_in types n level (code ∷ codes) all parent (chain twins more) h le =
    let p = and_parts (are_of types code twins) (are_chains_of types codes more) h in
    let same = all.0 in
    starts_append types n (list_of parent twins) (list_in parent more) (starts_of types n code parent twins p.0 (omega (arith, le, same))) (starts_in types n level codes (all.1) parent more p.1 le)

pub starts_less : (types : List SegType) (n m : ℕ) (list : List Placed) → starts_upto types n list ≡ true → n ≤ m → starts_upto types m list ≡ true
starts_less types n m [] h le = refl
starts_less types n m (p ∷ list) h le = let l = leb-true (row_level types p.row) n h in le-leb (row_level types p.row) m (omega (arith, l, le))

-- ---- roots

unfoldable pub ones : Chains → List ℕ
ones no_chain = []
ones (chain twins more) = 1 ∷ ones more

pub roots_typed : (types : List SegType) (chains : Chains) → are_roots types chains ≡ true → are_chains_of types (ones chains) chains ≡ true
unfolding ones
roots_typed types no_chain h = refl
roots_typed types (chain twins more) h =
    let p = and_parts (are_of types 1 twins) (are_roots types more) h in
    and_from (are_of types 1 twins) (are_chains_of types (ones more) more) p.0 (roots_typed types more p.1)

pub ones_level : (types : List SegType) (chains : Chains) → AtLevel types (level_of types 1) (ones chains)
unfolding ones
ones_level types no_chain = tt
ones_level types (chain twins more) = (refl, ones_level types more)
