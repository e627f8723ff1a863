-- Lists of rows that rise by key, as maps: what is among them says what is looked up, and what they are.
use Rattle.std.proofs.Common.{◌≡◌, ◌⊎◌, ℕ, Bool, true, false, cond, List, [], ◌∷◌, Option, Some, None, inl, inr, refl, sym, ap, subst, ◌∙◌}
use Rattle.std.specs.Prelude.{Contains}
use Rattle.std.specs.Option.{option_or}
use Rattle.std.specs.Str.{bytes_eq}
use Rattle.std.proofs.lemmas.Slice.Eq.{bytes_eq-Decides}
use Rattle.std.proofs.lemmas.Bool.{false_from_ne_true}
use Rattle.keyed_sets.specs.Layout.{Row, is_below}
use Rattle.keyed_sets.specs.Map.{RowsRise, KeysRise, lookup, first_above, next_after, last_below, with_row, without_row, in_order}
use Rattle.keyed_sets.proofs.Keys.{below_trans, below_itself, below_both, three_ways, below_false}
use Rattle.keyed_sets.proofs.Members.{nothing_there, at_front, further, front_or, the_only}

key_of : Row → List ℕ
key_of row = row.0

-- the steps of the definitions
pub same_key : (a b : List ℕ) → a ≡ b → bytes_eq a b ≡ true
same_key a b is = (bytes_eq-Decides a b).1 is

pub other_key : (a b : List ℕ) → (a ≡ b → ⊥) → bytes_eq a b ≡ false
other_key a b apart = false_from_ne_true (bytes_eq a b) (λ is. apart ((bytes_eq-Decides a b).0 is))

-- of one key there is one row
pub one_row : (rows : List Row) → RowsRise rows → (x y : Row) → Contains rows x → Contains rows y → x.0 ≡ y.0 → x ≡ y
one_row [] rise x y c d is = absurd (nothing_there x c)
one_row (row ∷ rows) rise x y c d is = elim (front_or row rows x c) [
  | inl here ↦ elim (front_or row rows y d) [
    | inl there ↦ here ∙ sym there
    | inr d ↦ absurd (below_itself (row.0) (y.0) (rise.0 y d) (ap (λ (r : Row). r.0) (sym here) ∙ is))
  ]
  | inr c ↦ elim (front_or row rows y d) [
    | inl there ↦ absurd (below_itself (row.0) (x.0) (rise.0 x c) (ap (λ (r : Row). r.0) (sym there) ∙ sym is))
    | inr d ↦ one_row rows rise.1 x y c d is
  ]
]

pub lookup_none : (key : List ℕ) (rows : List Row) → ((x : Row) → Contains rows x → x.0 ≡ key → ⊥) → lookup key rows ≡ None
lookup_none key [] none = refl
lookup_none key (row ∷ rows) none =
    ap (λ (b : Bool). cond b (Some (row.1)) (lookup key rows)) (other_key (row.0) key (none row (at_front row rows)))
    ∙ lookup_none key rows (λ x c. none x (further row rows x c))

pub lookup_is : (key : List ℕ) (rows : List Row) → RowsRise rows → (x : Row) → Contains rows x → x.0 ≡ key → lookup key rows ≡ Some (x.1)
lookup_is key [] rise x c is = absurd (nothing_there x c)
lookup_is key (row ∷ rows) rise x c is = elim (front_or row rows x c) [
  | inl here ↦ ap (λ (b : Bool). cond b (Some (row.1)) (lookup key rows)) (same_key (row.0) key (ap (λ (r : Row). r.0) (sym here) ∙ is)) ∙ ap (λ (r : Row). Some (r.1)) (sym here)
  | inr c ↦ ap (λ (b : Bool). cond b (Some (row.1)) (lookup key rows)) (other_key (row.0) key (λ same. below_itself (row.0) (x.0) (rise.0 x c) (same ∙ sym is))) ∙ lookup_is key rows rise.1 x c is
]

pub above_none : (key : List ℕ) (rows : List Row) → ((x : Row) → Contains rows x → is_below key (x.0) ≡ true → ⊥) → first_above key rows ≡ None
above_none key [] none = refl
above_none key (row ∷ rows) none =
    ap (λ (b : Bool). cond b (Some row) (first_above key rows)) (false_from_ne_true (is_below key (row.0)) (none row (at_front row rows)))
    ∙ above_none key rows (λ x c. none x (further row rows x c))

-- the least of the rows above a key
pub above_is : (key : List ℕ) (rows : List Row) → RowsRise rows → (x : Row) → Contains rows x → is_below key (x.0) ≡ true
    → ((y : Row) → Contains rows y → is_below key (y.0) ≡ true → is_below (y.0) (x.0) ≡ true → ⊥) → first_above key rows ≡ Some x
above_is key [] rise x c above least = absurd (nothing_there x c)
above_is key (row ∷ rows) rise x c above least = elim (front_or row rows x c) [
  | inl here ↦ ap (λ (b : Bool). cond b (Some row) (first_above key rows)) (ap (λ (r : Row). is_below key (r.0)) (sym here) ∙ above) ∙ ap (λ (r : Row). Some r) (sym here)
  | inr c ↦
      ap (λ (b : Bool). cond b (Some row) (first_above key rows)) (false_from_ne_true (is_below key (row.0)) (λ front. least row (at_front row rows) front (rise.0 x c)))
      ∙ above_is key rows rise.1 x c above (λ y d. least y (further row rows y d))
]

pub least_none : (rows : List Row) → ((x : Row) → Contains rows x → ⊥) → next_after None rows ≡ None
least_none [] none = refl
least_none (row ∷ rows) none = absurd (none row (at_front row rows))

pub least_is : (rows : List Row) → RowsRise rows → (x : Row) → Contains rows x → ((y : Row) → Contains rows y → is_below (y.0) (x.0) ≡ true → ⊥) → next_after None rows ≡ Some x
least_is [] rise x c least = absurd (nothing_there x c)
least_is (row ∷ rows) rise x c least = elim (front_or row rows x c) [
  | inl here ↦ ap (λ (r : Row). Some r) (sym here)
  | inr c ↦ absurd (least row (at_front row rows) (rise.0 x c))
]

pub below_none : (key : List ℕ) (rows : List Row) → ((x : Row) → Contains rows x → is_below (x.0) key ≡ true → ⊥) → last_below key rows ≡ None
below_none key [] none = refl
below_none key (row ∷ rows) none =
    ap (λ (b : Bool). cond b (option_or (last_below key rows) (Some row)) None) (false_from_ne_true (is_below (row.0) key) (none row (at_front row rows)))

-- the greatest of the rows below a key
pub below_is : (key : List ℕ) (rows : List Row) → RowsRise rows → (x : Row) → Contains rows x → is_below (x.0) key ≡ true
    → ((y : Row) → Contains rows y → is_below (y.0) key ≡ true → is_below (x.0) (y.0) ≡ true → ⊥) → last_below key rows ≡ Some x
below_is key [] rise x c below greatest = absurd (nothing_there x c)
below_is key (row ∷ rows) rise x c below greatest = elim (front_or row rows x c) [
  | inl here ↦
      let rest : last_below key rows ≡ None = below_none key rows (λ y d under. greatest y (further row rows y d) under (ap (λ (r : Row). is_below (r.0) (y.0)) here ∙ rise.0 y d)) in
      ap (λ (b : Bool). cond b (option_or (last_below key rows) (Some row)) None) (ap (λ (r : Row). is_below (r.0) key) (sym here) ∙ below)
      ∙ ap (λ (o : Option Row). option_or o (Some row)) rest ∙ ap (λ (r : Row). Some r) (sym here)
  | inr c ↦
      ap (λ (b : Bool). cond b (option_or (last_below key rows) (Some row)) None) (below_trans (row.0) (x.0) key (rise.0 x c) below)
      ∙ ap (λ (o : Option Row). option_or o (Some row)) (below_is key rows rise.1 x c below (λ y d. greatest y (further row rows y d)))
]

-- a row put in its place
pub row_behind : (row next : Row) (rows : List Row) → is_below (next.0) (row.0) ≡ true → with_row row (next ∷ rows) ≡ next ∷ with_row row rows
row_behind row next rows below = ap (λ (b : Bool). cond b (next ∷ with_row row rows) (cond (is_below (row.0) (next.0)) (row ∷ next ∷ rows) (row ∷ rows))) below

pub row_ahead : (row next : Row) (rows : List Row) → is_below (row.0) (next.0) ≡ true → with_row row (next ∷ rows) ≡ row ∷ next ∷ rows
row_ahead row next rows below =
    ap (λ (b : Bool). cond b (next ∷ with_row row rows) (cond (is_below (row.0) (next.0)) (row ∷ next ∷ rows) (row ∷ rows))) (below_false (next.0) (row.0) (λ other. below_both (row.0) (next.0) below other))
    ∙ ap (λ (b : Bool). cond b (row ∷ next ∷ rows) (row ∷ rows)) below

pub row_over : (row next : Row) (rows : List Row) → row.0 ≡ next.0 → with_row row (next ∷ rows) ≡ row ∷ rows
row_over row next rows same =
    ap (λ (b : Bool). cond b (next ∷ with_row row rows) (cond (is_below (row.0) (next.0)) (row ∷ next ∷ rows) (row ∷ rows))) (below_false (next.0) (row.0) (λ below. below_itself (next.0) (row.0) below (sym same)))
    ∙ ap (λ (b : Bool). cond b (row ∷ next ∷ rows) (row ∷ rows)) (below_false (row.0) (next.0) (λ below. below_itself (row.0) (next.0) below same))

abbrev pub IsAmong : Row → List Row → Row → Type 0
IsAmong row rows x = (x ≡ row) ⊎ (Contains rows x × (x.0 ≡ row.0 → ⊥))

among_more : (row next : Row) (rows : List Row) (x : Row) → is_below (next.0) (row.0) ≡ true → (x ≡ next) ⊎ IsAmong row rows x → IsAmong row (next ∷ rows) x
among_more row next rows x below (inl is) = inr (subst (Contains (next ∷ rows)) (sym is) (at_front next rows), λ same. below_itself (next.0) (row.0) below (ap (λ (r : Row). r.0) (sym is) ∙ same))
among_more row next rows x below (inr (inl is)) = inl is
among_more row next rows x below (inr (inr other)) = inr (further next rows x other.0, other.1)

pub with_row_has : (row : Row) (rows : List Row) → RowsRise rows → (x : Row) → Contains (with_row row rows) x → IsAmong row rows x
with_row_has row [] rise x c = inl (the_only row x c)
with_row_has row (next ∷ rows) rise x c = elim (three_ways (next.0) (row.0)) [
  | inl below ↦ elim (front_or next (with_row row rows) x (subst (λ (l : List Row). Contains l x) (row_behind row next rows below) c)) [
    | inl is ↦ among_more row next rows x below (inl is)
    | inr d ↦ among_more row next rows x below (inr (with_row_has row rows rise.1 x d))
  ]
  | inr (inl same) ↦ elim (front_or row rows x (subst (λ (l : List Row). Contains l x) (row_over row next rows (sym same)) c)) [
    | inl is ↦ inl is
    | inr d ↦ inr (further next rows x d, λ is. below_itself (next.0) (x.0) (rise.0 x d) (same ∙ sym is))
  ]
  | inr (inr above) ↦ elim (front_or row (next ∷ rows) x (subst (λ (l : List Row). Contains l x) (row_ahead row next rows above) c)) [
    | inl is ↦ inl is
    | inr d ↦ inr (
      d,
      λ is. elim (front_or next rows x d) [
        | inl here ↦ below_itself (row.0) (next.0) above (sym is ∙ ap (λ (r : Row). r.0) here)
        | inr e ↦ below_itself (row.0) (x.0) (below_trans (row.0) (next.0) (x.0) above (rise.0 x e)) (sym is)
      ],
    )
  ]
]

pub with_row_new : (row : Row) (rows : List Row) → Contains (with_row row rows) row
with_row_new row [] = at_front row []
with_row_new row (next ∷ rows) = elim (three_ways (next.0) (row.0)) [
  | inl below ↦ subst (λ (l : List Row). Contains l row) (sym (row_behind row next rows below)) (further next (with_row row rows) row (with_row_new row rows))
  | inr (inl same) ↦ subst (λ (l : List Row). Contains l row) (sym (row_over row next rows (sym same))) (at_front row rows)
  | inr (inr above) ↦ subst (λ (l : List Row). Contains l row) (sym (row_ahead row next rows above)) (at_front row (next ∷ rows))
]

pub with_row_old : (row : Row) (rows : List Row) (x : Row) → Contains rows x → (x.0 ≡ row.0 → ⊥) → Contains (with_row row rows) x
with_row_old row [] x c apart = absurd (nothing_there x c)
with_row_old row (next ∷ rows) x c apart = elim (three_ways (next.0) (row.0)) [
  | inl below ↦ subst (λ (l : List Row). Contains l x) (sym (row_behind row next rows below)) (elim (front_or next rows x c) [
    | inl is ↦ subst (Contains (next ∷ with_row row rows)) (sym is) (at_front next (with_row row rows))
    | inr d ↦ further next (with_row row rows) x (with_row_old row rows x d apart)
  ])
  | inr (inl same) ↦ subst (λ (l : List Row). Contains l x) (sym (row_over row next rows (sym same))) (elim (front_or next rows x c) [
    | inl is ↦ absurd (apart (ap (λ (r : Row). r.0) is ∙ same))
    | inr d ↦ further row rows x d
  ])
  | inr (inr above) ↦ subst (λ (l : List Row). Contains l x) (sym (row_ahead row next rows above)) (further row (next ∷ rows) x c)
]

pub with_row_rises : (row : Row) (rows : List Row) → RowsRise rows → RowsRise (with_row row rows)
with_row_rises row [] rise = (λ y c. absurd (nothing_there y c), tt)
with_row_rises row (next ∷ rows) rise = elim (three_ways (next.0) (row.0)) [
  | inl below ↦ subst RowsRise (sym (row_behind row next rows below)) (
    λ y c. elim (with_row_has row rows rise.1 y c) [ inl is ↦ ap (λ (r : Row). is_below (next.0) (r.0)) is ∙ below | inr other ↦ rise.0 y other.0 ],
    with_row_rises row rows rise.1,
  )
  | inr (inl same) ↦ subst RowsRise (sym (row_over row next rows (sym same))) (λ y c. ap (λ (k : List ℕ). is_below k (y.0)) (sym same) ∙ rise.0 y c, rise.1)
  | inr (inr above) ↦ subst RowsRise (sym (row_ahead row next rows above)) (
    λ y c. elim (front_or next rows y c) [ inl is ↦ ap (λ (r : Row). is_below (row.0) (r.0)) is ∙ above | inr d ↦ below_trans (row.0) (next.0) (y.0) above (rise.0 y d) ],
    rise,
  )
]

-- a row taken away
pub same_or : (a b : List ℕ) → (a ≡ b) ⊎ (a ≡ b → ⊥)
same_or a b = elim (three_ways a b) [
  | inl below ↦ inr (below_itself a b below)
  | inr (inl same) ↦ inl same
  | inr (inr above) ↦ inr (λ is. below_itself b a above (sym is))
]

pub gone : (key : List ℕ) (row : Row) (rows : List Row) → row.0 ≡ key → without_row key (row ∷ rows) ≡ rows
gone key row rows same = ap (λ (b : Bool). cond b rows (row ∷ without_row key rows)) (same_key (row.0) key same)

pub stays : (key : List ℕ) (row : Row) (rows : List Row) → (row.0 ≡ key → ⊥) → without_row key (row ∷ rows) ≡ row ∷ without_row key rows
stays key row rows apart = ap (λ (b : Bool). cond b rows (row ∷ without_row key rows)) (other_key (row.0) key apart)

pub without_row_has : (key : List ℕ) (rows : List Row) → RowsRise rows → (x : Row) → Contains (without_row key rows) x → Contains rows x × (x.0 ≡ key → ⊥)
without_row_has key [] rise x c = absurd (nothing_there x c)
without_row_has key (row ∷ rows) rise x c = elim (same_or (row.0) key) [
  | inl same ↦
      let d : Contains rows x = subst (λ (l : List Row). Contains l x) (gone key row rows same) c in
      (further row rows x d, λ is. below_itself (row.0) (x.0) (rise.0 x d) (same ∙ sym is))
  | inr apart ↦ elim (front_or row (without_row key rows) x (subst (λ (l : List Row). Contains l x) (stays key row rows apart) c)) [
    | inl here ↦ (subst (Contains (row ∷ rows)) (sym here) (at_front row rows), λ is. apart (ap (λ (r : Row). r.0) (sym here) ∙ is))
    | inr d ↦ let rest = without_row_has key rows rise.1 x d in (further row rows x rest.0, rest.1)
  ]
]

pub without_row_old : (key : List ℕ) (rows : List Row) (x : Row) → Contains rows x → (x.0 ≡ key → ⊥) → Contains (without_row key rows) x
without_row_old key [] x c apart = absurd (nothing_there x c)
without_row_old key (row ∷ rows) x c apart = elim (same_or (row.0) key) [
  | inl same ↦ subst (λ (l : List Row). Contains l x) (sym (gone key row rows same)) (elim (front_or row rows x c) [
    | inl here ↦ absurd (apart (ap (λ (r : Row). r.0) here ∙ same))
    | inr d ↦ d
  ])
  | inr other ↦ subst (λ (l : List Row). Contains l x) (sym (stays key row rows other)) (elim (front_or row rows x c) [
    | inl here ↦ subst (Contains (row ∷ without_row key rows)) (sym here) (at_front row (without_row key rows))
    | inr d ↦ further row (without_row key rows) x (without_row_old key rows x d apart)
  ])
]

pub without_row_rises : (key : List ℕ) (rows : List Row) → RowsRise rows → RowsRise (without_row key rows)
without_row_rises key [] rise = tt
without_row_rises key (row ∷ rows) rise = elim (same_or (row.0) key) [
  | inl same ↦ subst RowsRise (sym (gone key row rows same)) rise.1
  | inr apart ↦ subst RowsRise (sym (stays key row rows apart)) (λ y c. rise.0 y (without_row_has key rows rise.1 y c).0, without_row_rises key rows rise.1)
]

-- lists that rise are known by what is among them
pub same_rising : {X : Type 0} (key : X → List ℕ) (a b : List X) → KeysRise key a → KeysRise key b → ((x : X) → Contains a x → Contains b x) → ((x : X) → Contains b x → Contains a x) → a ≡ b
same_rising key [] [] left right to back = refl
same_rising key [] (y ∷ ys) left right to back = absurd (nothing_there y (back y (at_front y ys)))
same_rising key (x ∷ xs) [] left right to back = absurd (nothing_there x (to x (at_front x xs)))
same_rising {X} key (x ∷ xs) (y ∷ ys) left right to back =
    let first : x ≡ y = elim (front_or y ys x (to x (at_front x xs))) [
      | inl is ↦ is
      | inr c ↦ elim (front_or x xs y (back y (at_front y ys))) [
        | inl is ↦ sym is
        | inr d ↦ absurd (below_both (key y) (key x) (right.0 x c) (left.0 y d))
      ]
    ] in
    let there : (z : X) → Contains xs z → Contains ys z = λ z c. elim (front_or y ys z (to z (further x xs z c))) [
      | inl is ↦ absurd (below_itself (key x) (key z) (left.0 z c) (ap key (first ∙ sym is)))
      | inr d ↦ d
    ] in
    let again : (z : X) → Contains ys z → Contains xs z = λ z c. elim (front_or x xs z (back z (further y ys z c))) [
      | inl is ↦ absurd (below_itself (key y) (key z) (right.0 z c) (ap key (sym first ∙ sym is)))
      | inr d ↦ d
    ] in
    ap (λ (r : X). r ∷ xs) first ∙ ap (λ (l : List X). y ∷ l) (same_rising key xs ys left.1 right.1 there again)

pub same_rows : (a b : List Row) → RowsRise a → RowsRise b → ((x : Row) → Contains a x → Contains b x) → ((x : Row) → Contains b x → Contains a x) → a ≡ b
same_rows a b left right to back = same_rising (λ (r : Row). r.0) a b left right to back

-- rows of which no two have one key, in order
pub in_order_rises : (rows : List Row) → RowsRise (in_order rows)
in_order_rises [] = tt
in_order_rises (row ∷ rows) = with_row_rises row (in_order rows) (in_order_rises rows)

pub in_order_has : (rows : List Row) (x : Row) → Contains (in_order rows) x → Contains rows x
in_order_has [] x c = c
in_order_has (row ∷ rows) x c = elim (with_row_has row (in_order rows) (in_order_rises rows) x c) [
  | inl is ↦ subst (Contains (row ∷ rows)) (sym is) (at_front row rows)
  | inr other ↦ further row rows x (in_order_has rows x other.0)
]

pub in_order_all : (rows : List Row) → ((x y : Row) → Contains rows x → Contains rows y → x.0 ≡ y.0 → x ≡ y) → (x : Row) → Contains rows x → Contains (in_order rows) x
in_order_all [] one x c = c
in_order_all (row ∷ rows) one x c = elim (same_or (x.0) (row.0)) [
  | inl same ↦ subst (Contains (with_row row (in_order rows))) (sym (one x row c (at_front row rows) same)) (with_row_new row (in_order rows))
  | inr apart ↦ with_row_old row (in_order rows) x (elim (front_or row rows x c) [
    | inl is ↦ absurd (apart (ap (λ (r : Row). r.0) is))
    | inr d ↦ in_order_all rows (λ y z e f. one y z (further row rows y e) (further row rows z f)) x d
  ]) apart
]
