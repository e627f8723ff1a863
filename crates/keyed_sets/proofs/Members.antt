-- What is among the elements of a list, and lists whose keys rise.
use Rattle.std.proofs.Common.{not, ◌≡◌, ◌⊎◌, ℕ, zero, suc, ◌<◌, true, false, cond, List, [], ◌∷◌, ◌++◌, length, get_or, inl, inr, refl, sym, ap, ◌∙◌, arith}
use Rattle.std.specs.Prelude.{Contains}
use Rattle.std.specs.List.Sorted.{IsPartitionedBy}
use Rattle.std.proofs.lemmas.Bool.{not-true, not_from_false, cases_eq}
use Rattle.std.proofs.lemmas.List.Elements.{Contains-get_or, Contains-append_left, Contains-append_right, Contains-append_cases}
use Rattle.keyed_sets.specs.Layout.{Row, is_below}
use Rattle.keyed_sets.specs.Map.{KeysRise}
use Rattle.keyed_sets.specs.Rule.{rising_count, Rise}
use Rattle.keyed_sets.proofs.Keys.{below_trans, below_false}

pub nothing_there : {X : Type 0} (x : X) → Contains [] x → ⊥
nothing_there x c = absurd (omega (arith, c.1))

pub at_front : {X : Type 0} (x : X) (xs : List X) → Contains (x ∷ xs) x
at_front x xs = (0, omega arith, refl)

pub further : {X : Type 0} (x : X) (xs : List X) (y : X) → Contains xs y → Contains (x ∷ xs) y
further x xs y c = (suc c.0, omega (arith, c.1), c.2)

cases_at : {X : Type 0} (x : X) (xs : List X) (y : X) (k : ℕ) → k < length (x ∷ xs) → get_or (x ∷ xs) k y ≡ y → (y ≡ x) ⊎ Contains xs y
cases_at x xs y zero lt is = inl (sym is)
cases_at x xs y (suc k) lt is = inr (k, omega (arith, lt), is)

pub front_or : {X : Type 0} (x : X) (xs : List X) (y : X) → Contains (x ∷ xs) y → (y ≡ x) ⊎ Contains xs y
front_or x xs y c = cases_at x xs y c.0 c.1 c.2

pub the_only : {X : Type 0} (x y : X) → Contains (x ∷ []) y → y ≡ x
the_only x y c = elim (front_or x [] y c) [ inl is ↦ is | inr c ↦ absurd (nothing_there y c) ]

-- what is behind keys that rise is above them all
pub rise-append : {X : Type 0} (key : X → List ℕ) (xs ys : List X) → KeysRise key xs → KeysRise key ys
    → ((x y : X) → Contains xs x → Contains ys y → is_below (key x) (key y) ≡ true) → KeysRise key (xs ++ ys)
rise-append key [] ys left right between = right
rise-append {X} key (x ∷ xs) ys left right between = (
  λ y c. elim (Contains-append_cases xs ys y c) [ inl c ↦ left.0 y c | inr c ↦ between x y (at_front x xs) c ],
  rise-append key xs ys left.1 right (λ a b c d. between a b (further x xs a c) d),
)

pub rise-left : {X : Type 0} (key : X → List ℕ) (xs ys : List X) → KeysRise key (xs ++ ys) → KeysRise key xs
rise-left key [] ys rise = tt
rise-left key (x ∷ xs) ys rise = (λ y c. rise.0 y (Contains-append_left xs ys y c), rise-left key xs ys rise.1)

pub rise-right : {X : Type 0} (key : X → List ℕ) (xs ys : List X) → KeysRise key (xs ++ ys) → KeysRise key ys
rise-right key [] ys rise = rise
rise-right key (x ∷ xs) ys rise = rise-right key xs ys rise.1

pub rise-between : {X : Type 0} (key : X → List ℕ) (xs ys : List X) → KeysRise key (xs ++ ys) → (x y : X) → Contains xs x → Contains ys y → is_below (key x) (key y) ≡ true
rise-between key [] ys rise x y c d = absurd (nothing_there x c)
rise-between key (z ∷ xs) ys rise x y c d = elim (front_or z xs x c) [
  | inl is ↦ ap (λ w. is_below (key w) (key y)) is ∙ rise.0 y (Contains-append_right xs ys y d)
  | inr c ↦ rise-between key xs ys rise.1 x y c d
]

-- rows that rise one by one rise all
above_first : (row next : Row) (rows : List Row) → is_below (row.0) (next.0) ≡ true → KeysRise (λ (r : Row). r.0) (next ∷ rows) → (y : Row) → Contains (next ∷ rows) y → is_below (row.0) (y.0) ≡ true
above_first row next rows below rise y c = elim (front_or next rows y c) [
  | inl is ↦ ap (λ (w : Row). is_below (row.0) (w.0)) is ∙ below
  | inr c ↦ below_trans (row.0) (next.0) (y.0) below (rise.0 y c)
]

stopped : (b : _) (n m : ℕ) → cond b (suc n) 1 ≡ suc (suc m) → (b ≡ true) × (n ≡ suc m)
stopped true n m is = (refl, omega (arith, is))
stopped false n m is = absurd (omega (arith, is))

pub rise_all : (rows : List Row) → Rise rows → KeysRise (λ (r : Row). r.0) rows
rise_all [] rise = tt
rise_all (row ∷ []) rise = (λ y c. absurd (nothing_there y c), tt)
rise_all (row ∷ next ∷ rows) rise =
    let on = stopped (is_below (row.0) (next.0)) (rising_count (next ∷ rows)) (length rows) rise in
    let rest : KeysRise (λ (r : Row). r.0) (next ∷ rows) = rise_all (next ∷ rows) on.1 in
    (above_first row next rows on.0 rest, rest)

pub rise_one : (rows : List Row) → KeysRise (λ (r : Row). r.0) rows → Rise rows
rise_one [] rise = refl
rise_one (row ∷ []) rise = refl
rise_one (row ∷ next ∷ rows) rise =
    ap (λ b. cond b (suc (rising_count (next ∷ rows))) 1) (rise.0 next (at_front next rows)) ∙ ap suc (rise_one (next ∷ rows) rise.1)

-- an earlier key is below a later one
pub rise_at : {X : Type 0} (key : X → List ℕ) (xs : List X) → KeysRise key xs → (i j : ℕ) (d : X) → i < j → j < length xs → is_below (key (get_or xs i d)) (key (get_or xs j d)) ≡ true
rise_at key [] rise i j d lt within = absurd (omega (arith, within))
rise_at key (x ∷ xs) rise zero zero d lt within = absurd (omega arith)
rise_at key (x ∷ xs) rise zero (suc j) d lt within = rise.0 (get_or xs j d) (Contains-get_or xs j d (omega (arith, within)))
rise_at key (x ∷ xs) rise (suc i) zero d lt within = absurd (omega arith)
rise_at key (x ∷ xs) rise (suc i) (suc j) d lt within = rise_at key xs rise.1 i j d (omega arith) (omega (arith, within))

-- what isn't above a key stands before what is
pub parted : {X : Type 0} (key : X → List ℕ) (k : List ℕ) (xs : List X) → KeysRise key xs → IsPartitionedBy (λ x. not (is_below k (key x))) xs
parted {X} key k xs rise i j d le within so = elim (cases_eq i j) [
  | inl is ↦ ap (λ (n : ℕ). not (is_below k (key (get_or xs n d)))) is ∙ so
  | inr other ↦
      let lower = rise_at key xs rise i j d (omega arith) within in
      not_from_false (is_below k (key (get_or xs i d))) (below_false k (key (get_or xs i d)) (λ above.
      let upper : is_below k (key (get_or xs j d)) ≡ true = below_trans k (key (get_or xs i d)) (key (get_or xs j d)) above lower in
      let under : is_below k (key (get_or xs j d)) ≡ false = not-true (is_below k (key (get_or xs j d))) so in
      cc))
]

-- what is below a key stands before what isn't
pub parted_below : {X : Type 0} (key : X → List ℕ) (k : List ℕ) (xs : List X) → KeysRise key xs → IsPartitionedBy (λ x. is_below (key x) k) xs
parted_below {X} key k xs rise i j d le within so = elim (cases_eq i j) [
  | inl is ↦ ap (λ (n : ℕ). is_below (key (get_or xs n d)) k) is ∙ so
  | inr other ↦ below_trans (key (get_or xs i d)) (key (get_or xs j d)) k (rise_at key xs rise i j d (omega arith) within) so
]
