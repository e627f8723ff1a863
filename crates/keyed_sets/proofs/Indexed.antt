-- The index of a set's pages as a function of them.
use Rattle.std.proofs.Common.{◌≡◌, ◌⊎◌, ℕ, zero, suc, ◌+◌, ◌-◌, ◌≤◌, Bool, true, false, cond, List, [], ◌∷◌, inl, inr, refl, sym, ap, subst, ◌∙◌, arith}
use Rattle.std.specs.Prelude.{Contains}
use Rattle.std.proofs.lemmas.Bool.{cases_Bool}
use Rattle.keyed_sets.specs.declared.index.First.{First}
use Rattle.keyed_sets.specs.declared.row.RowShape.{RowShape}
use Rattle.keyed_sets.specs.Layout.{Row, is_below}
use Rattle.keyed_sets.specs.Map.{KeysRise}
use Rattle.keyed_sets.specs.Rule.{KeepsRule, tables, page_rows}
use Rattle.keyed_sets.specs.Index.{numbered, with_first, by_key, firsts_of, empty_numbers}
use Rattle.keyed_sets.specs.Standing.{StartsWith, IsIndex, Stands}
use Rattle.keyed_sets.specs.Taken.{AreApart}
use Rattle.keyed_sets.proofs.Keys.{below_itself, below_trans, not_below}
use Rattle.keyed_sets.proofs.Maps.{same_rising}
use Rattle.keyed_sets.proofs.Members.{nothing_there, at_front, further, front_or, the_only}
use Rattle.keyed_sets.proofs.Tables.{first_row}
use Rattle.keyed_sets.proofs.Sets.{lawful}

-- what stands among the first keys in the order of the pages
numbered_has : (at : ℕ) (table : List (List Row)) (f : First) → Contains (numbered at table) f → (at ≤ f.page) × StartsWith f.key (page_rows table (f.page - at))
numbered_has at [] f c = absurd (nothing_there f c)
numbered_has at ([] ∷ table) f c =
    let more = numbered_has (at + 1) table f c in
    let step : suc (f.page - (at + 1)) ≡ f.page - at = omega (arith, more.0) in
    (omega (arith, more.0), subst (λ (k : ℕ). StartsWith f.key (page_rows ([] ∷ table) k)) step more.1)
numbered_has at ((row ∷ rows) ∷ table) f c = elim (front_or (record { key = row.0; page = at }) (numbered (at + 1) table) f c) [
  | inl is ↦
      let none : 0 ≡ at - at = omega arith in
      subst (λ (g : First). (at ≤ g.page) × StartsWith g.key (page_rows ((row ∷ rows) ∷ table) (g.page - at))) (sym is)
      (omega arith, subst (λ (k : ℕ). StartsWith (row.0) (page_rows ((row ∷ rows) ∷ table) k)) none refl)
  | inr d ↦
      let more = numbered_has (at + 1) table f d in
      let step : suc (f.page - (at + 1)) ≡ f.page - at = omega (arith, more.0) in
      (omega (arith, more.0), subst (λ (k : ℕ). StartsWith f.key (page_rows ((row ∷ rows) ∷ table) k)) step more.1)
]

numbered_all : (at : ℕ) (table : List (List Row)) (n : ℕ) (x : Row) → Contains (page_rows table n) x → (f : First) × Contains (numbered at table) f × (f.page ≡ at + n)
numbered_all at [] n x c = absurd (nothing_there x c)
numbered_all at ([] ∷ table) zero x c = absurd (nothing_there x c)
numbered_all at ([] ∷ table) (suc n) x c = let more = numbered_all (at + 1) table n x c in (more.0, more.1, omega (arith, more.2))
numbered_all at ((row ∷ rows) ∷ table) zero x c = (record { key = row.0; page = at }, at_front (record { key = row.0; page = at }) (numbered (at + 1) table), omega arith)
numbered_all at ((row ∷ rows) ∷ table) (suc n) x c =
    let more = numbered_all (at + 1) table n x c in
    (more.0, further (record { key = row.0; page = at }) (numbered (at + 1) table) more.0 more.1, omega (arith, more.2))

-- one put in its place among others
first_behind : (new first : First) (firsts : List First) → is_below first.key new.key ≡ true → with_first new (first ∷ firsts) ≡ first ∷ with_first new firsts
first_behind new first firsts below = ap (λ (b : Bool). cond b (first ∷ with_first new firsts) (new ∷ first ∷ firsts)) below

first_ahead : (new first : First) (firsts : List First) → is_below first.key new.key ≡ false → with_first new (first ∷ firsts) ≡ new ∷ first ∷ firsts
first_ahead new first firsts apart = ap (λ (b : Bool). cond b (first ∷ with_first new firsts) (new ∷ first ∷ firsts)) apart

with_first_has : (new : First) (firsts : List First) (f : First) → Contains (with_first new firsts) f → (f ≡ new) ⊎ Contains firsts f
with_first_has new [] f c = inl (the_only new f c)
with_first_has new (first ∷ firsts) f c = elim (cases_Bool (is_below first.key new.key)) [
  | inl below ↦ elim (front_or first (with_first new firsts) f (subst (λ (l : List First). Contains l f) (first_behind new first firsts below) c)) [
    | inl is ↦ inr (subst (Contains (first ∷ firsts)) (sym is) (at_front first firsts))
    | inr d ↦ elim (with_first_has new firsts f d) [ inl is ↦ inl is | inr e ↦ inr (further first firsts f e) ]
  ]
  | inr apart ↦ front_or new (first ∷ firsts) f (subst (λ (l : List First). Contains l f) (first_ahead new first firsts apart) c)
]

with_first_all : (new : First) (firsts : List First) (f : First) → (f ≡ new) ⊎ Contains firsts f → Contains (with_first new firsts) f
with_first_all new [] f (inl is) = subst (Contains (new ∷ [])) (sym is) (at_front new [])
with_first_all new [] f (inr c) = absurd (nothing_there f c)
with_first_all new (first ∷ firsts) f c = elim (cases_Bool (is_below first.key new.key)) [
  | inl below ↦ subst (λ (l : List First). Contains l f) (sym (first_behind new first firsts below)) (elim c [
    | inl is ↦ further first (with_first new firsts) f (with_first_all new firsts f (inl is))
    | inr d ↦ elim (front_or first firsts f d) [
      | inl is ↦ subst (Contains (first ∷ with_first new firsts)) (sym is) (at_front first (with_first new firsts))
      | inr e ↦ further first (with_first new firsts) f (with_first_all new firsts f (inr e))
    ]
  ])
  | inr apart ↦ subst (λ (l : List First). Contains l f) (sym (first_ahead new first firsts apart)) (elim c [
    | inl is ↦ subst (Contains (new ∷ first ∷ firsts)) (sym is) (at_front new (first ∷ firsts))
    | inr d ↦ further new (first ∷ firsts) f d
  ])
]

abbrev key_of : First → List ℕ
key_of f = f.key

with_first_rises : (new : First) (firsts : List First) → KeysRise key_of firsts → ((f : First) → Contains firsts f → f.key ≡ new.key → ⊥) → KeysRise key_of (with_first new firsts)
with_first_rises new [] rise apart = (λ f c. absurd (nothing_there f c), tt)
with_first_rises new (first ∷ firsts) rise apart = elim (cases_Bool (is_below first.key new.key)) [
  | inl below ↦ subst (KeysRise key_of) (sym (first_behind new first firsts below)) (
    λ f c. elim (with_first_has new firsts f c) [ inl is ↦ ap (λ (g : First). is_below first.key g.key) is ∙ below | inr d ↦ rise.0 f d ],
    with_first_rises new firsts rise.1 (λ f c. apart f (further first firsts f c)),
  )
  | inr over ↦
      let above : is_below new.key first.key ≡ true = elim (not_below first.key new.key over) [ inl same ↦ absurd (apart first (at_front first firsts) same) | inr above ↦ above ] in
      subst (KeysRise key_of) (sym (first_ahead new first firsts over)) (
        λ f c. elim (front_or first firsts f c) [ inl is ↦ ap (λ (g : First). is_below new.key g.key) is ∙ above | inr d ↦ below_trans new.key first.key f.key above (rise.0 f d) ],
        rise,
      )
]

by_key_has : (firsts : List First) (f : First) → Contains (by_key firsts) f → Contains firsts f
by_key_has [] f c = c
by_key_has (first ∷ firsts) f c = elim (with_first_has first (by_key firsts) f c) [
  | inl is ↦ subst (Contains (first ∷ firsts)) (sym is) (at_front first firsts)
  | inr d ↦ further first firsts f (by_key_has firsts f d)
]

by_key_all : (firsts : List First) (f : First) → Contains firsts f → Contains (by_key firsts) f
by_key_all [] f c = c
by_key_all (first ∷ firsts) f c = with_first_all first (by_key firsts) f (elim (front_or first firsts f c) [ inl is ↦ inl is | inr d ↦ inr (by_key_all firsts f d) ])

apart_behind : (rows : List Row) (table : List (List Row)) → AreApart (rows ∷ table) → AreApart table
apart_behind rows table apart = record { rise = λ n. apart.rise (suc n); apart = λ m n other. apart.apart (suc m) (suc n) (λ is. other (omega (arith, is))) }

by_key_rises : (at : ℕ) (table : List (List Row)) → AreApart table → KeysRise key_of (by_key (numbered at table))
by_key_rises at [] apart = tt
by_key_rises at ([] ∷ table) apart = by_key_rises (at + 1) table (apart_behind [] table apart)
by_key_rises at ((row ∷ rows) ∷ table) apart =
    with_first_rises (record { key = row.0; page = at }) (by_key (numbered (at + 1) table)) (by_key_rises (at + 1) table (apart_behind (row ∷ rows) table apart)) (λ f c is.
    let k : ℕ = f.page - (at + 1) in
    let front = first_row f.key (page_rows table k) (numbered_has (at + 1) table f (by_key_has (numbered (at + 1) table) f c)).1 in
    let same : row.0 ≡ (front.0).0 = sym (front.2 ∙ is) in
    elim (apart.apart 0 (suc k) (λ is. absurd (omega arith))) [
      | inl below ↦ below_itself (row.0) ((front.0).0) (below row front.0 (at_front row rows) front.1) same
      | inr above ↦ below_itself ((front.0).0) (row.0) (above front.0 row front.1 (at_front row rows)) (sym same)
    ])

pub index_of : (table : List (List Row)) → AreApart table → IsIndex table (firsts_of table)
index_of table apart = record {
  starts = λ f c.
      let same : f.page - 0 ≡ f.page = omega arith in
      subst (λ (k : ℕ). StartsWith f.key (page_rows table k)) same (numbered_has 0 table f (by_key_has (numbered 0 table) f c)).1;
  all = λ n x c. let found = numbered_all 0 table n x c in (found.0, by_key_all (numbered 0 table) found.0 found.1, omega (arith, found.2));
  rise = by_key_rises 0 table apart;
}

same_start : (rows : List Row) (j k : List ℕ) → StartsWith j rows → StartsWith k rows → j ≡ k
same_start [] j k a b = absurd a
same_start (row ∷ rows) j k a b = sym a ∙ b

index_in : (table : List (List Row)) (a b : List First) → IsIndex table a → IsIndex table b → (f : First) → Contains a f → Contains b f
index_in table a b one two f c =
    let starts = one.starts f c in
    let front = first_row f.key (page_rows table f.page) starts in
    let found = two.all f.page front.0 front.1 in
    let keys : found.0.key ≡ f.key = same_start (page_rows table f.page) found.0.key f.key (subst (λ (n : ℕ). StartsWith found.0.key (page_rows table n)) found.2 (two.starts found.0 found.1)) starts in
    let same : found.0 ≡ f = ap (λ (k : List ℕ). record { key = k; page = found.0.page }) keys ∙ ap (λ (n : ℕ). record { key = f.key; page = n }) found.2 in
    subst (Contains b) same found.1

-- there is one index
pub same_index : (table : List (List Row)) (a b : List First) → IsIndex table a → IsIndex table b → a ≡ b
same_index table a b one two = same_rising key_of a b one.rise two.rise (index_in table a b one two) (index_in table b a two one)

pub stands_from : (shape : RowShape) (pages : List (List ℕ)) (firsts : List First) (empty : List ℕ) → KeepsRule shape pages → firsts ≡ firsts_of (tables shape pages) → empty ≡ empty_numbers 0 (tables shape pages) → Stands shape firsts empty pages
stands_from shape pages firsts empty rule is none = record { rule = rule; index = subst (IsIndex (tables shape pages)) (sym is) (index_of (tables shape pages) (lawful shape pages rule)); empty_pages = none }

pub firsts_are : (shape : RowShape) (pages : List (List ℕ)) (firsts : List First) (empty : List ℕ) → Stands shape firsts empty pages → firsts ≡ firsts_of (tables shape pages)
firsts_are shape pages firsts empty stands = same_index (tables shape pages) firsts (firsts_of (tables shape pages)) stands.index (index_of (tables shape pages) (lawful shape pages stands.rule))
