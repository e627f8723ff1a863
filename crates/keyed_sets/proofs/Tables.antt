-- The rows of pages, where a page is added behind the others.
use Rattle.std.proofs.Common.{Option, Some, true, false, ◌≡◌, ◌⊎◌, ℕ, zero, suc, ◌+◌, ◌<◌, ◌≤◌, List, [], ◌∷◌, ◌++◌, length, inl, inr, sym, ap, subst, ◌∙◌, arith}
use Rattle.std.specs.Prelude.{Contains, slice_get}
use Rattle.std.specs.Option.{option_map}
use Rattle.std.proofs.lemmas.Option.{same_Some, none-some}
use Rattle.std.proofs.lemmas.Bool.{cases_order, cases_lt}
use Rattle.std.proofs.lemmas.List.{get_or_append_left, get_or_push, get_or_past, length_push}
use Rattle.keyed_sets.specs.Map.{RowsRise}
use Rattle.keyed_sets.specs.Layout.{Row, is_below}
use Rattle.keyed_sets.specs.Rule.{page_rows}
use Rattle.keyed_sets.specs.Standing.{Apart, AllBelow, StartsWith}
use Rattle.keyed_sets.specs.Taken.{EndsWith}
use Rattle.keyed_sets.proofs.Keys.{below_both, below_itself, below_false}
use Rattle.keyed_sets.proofs.Members.{nothing_there, at_front, further, front_or}

pub page_past : (table : List (List Row)) (n : ℕ) → length table ≤ n → page_rows table n ≡ []
page_past table n le = get_or_past table n [] le

pub page_old : (table : List (List Row)) (rows : List Row) (n : ℕ) → n < length table → page_rows (table ++ rows ∷ []) n ≡ page_rows table n
page_old table rows n lt = get_or_append_left table (rows ∷ []) [] n lt

pub page_new : (table : List (List Row)) (rows : List Row) (n : ℕ) → n ≡ length table → page_rows (table ++ rows ∷ []) n ≡ rows
page_new table rows n is = get_or_push table rows [] n (sym is)

-- a page that has a row is there
pub row_within : (table : List (List Row)) (n : ℕ) (row : Row) → Contains (page_rows table n) row → n < length table
row_within table n row c = elim (cases_lt n (length table)) [
  | inl lt ↦ lt
  | inr le ↦ absurd (nothing_there row (subst (λ (l : List Row). Contains l row) (page_past table n le) c))
]

pub page_or : (table : List (List Row)) (rows : List Row) (n : ℕ) (row : Row) → Contains (page_rows (table ++ rows ∷ []) n) row
    → (Contains (page_rows table n) row × (n < length table)) ⊎ ((n ≡ length table) × Contains rows row)
page_or table rows n row c = elim (cases_order n (length table)) [
  | inl is ↦ inr (is, subst (λ (l : List Row). Contains l row) (page_new table rows n is) c)
  | inr (inl lt) ↦ inl (subst (λ (l : List Row). Contains l row) (page_old table rows n lt) c, lt)
  | inr (inr gt) ↦ absurd (nothing_there row (subst (λ (l : List Row). Contains l row) (page_past (table ++ rows ∷ []) n (omega (arith, length_push table rows))) c))
]

pub apart_turned : (a b : List Row) → Apart a b → Apart b a
apart_turned a b (inl below) = inr below
apart_turned a b (inr above) = inl above

pub apart_none : (a b : List Row) → a ≡ [] → Apart a b
apart_none a b is = inl (λ x y c d. absurd (nothing_there x (subst (λ (l : List Row). Contains l x) is c)))

-- the rows of a page lie between its first key and its last
pub first_row : (key : List ℕ) (rows : List Row) → StartsWith key rows → (row : Row) × Contains rows row × (row.0 ≡ key)
first_row key [] starts = absurd starts
first_row key (row ∷ rows) starts = (row, at_front row rows, starts)

pub last_row : (key : List ℕ) (rows : List Row) → EndsWith key rows → (row : Row) × Contains rows row × (row.0 ≡ key)
last_row key [] ends = absurd ends
last_row key (row ∷ []) ends = (row, at_front row [], ends)
last_row key (row ∷ next ∷ rows) ends = let more = last_row key (next ∷ rows) ends in (more.0, further row (next ∷ rows) more.0 more.1, more.2)

pub from_first : (key : List ℕ) (rows : List Row) → RowsRise rows → StartsWith key rows → (row : Row) → Contains rows row → is_below (row.0) key ≡ false
from_first key [] rise starts row c = absurd starts
from_first key (first ∷ rows) rise starts row c = below_false (row.0) key (λ below. elim (front_or first rows row c) [
  | inl is ↦ below_itself (row.0) key below (ap (λ (r : Row). r.0) is ∙ starts)
  | inr d ↦ below_both (row.0) key below (ap (λ (k : List ℕ). is_below k (row.0)) (sym starts) ∙ rise.0 row d)
])

pub upto_last : (key : List ℕ) (rows : List Row) → RowsRise rows → EndsWith key rows → (row : Row) → Contains rows row → is_below key (row.0) ≡ false
upto_last key [] rise ends row c = absurd ends
upto_last key (last ∷ []) rise ends row c = below_false key (row.0) (λ below. elim (front_or last [] row c) [
  | inl is ↦ below_itself key (row.0) below (sym ends ∙ ap (λ (r : Row). r.0) (sym is))
  | inr d ↦ nothing_there row d
])
upto_last key (first ∷ next ∷ rows) rise ends row c = elim (front_or first (next ∷ rows) row c) [
  | inl is ↦
      let end = last_row key (next ∷ rows) ends in
      let below : is_below (row.0) key ≡ true = ap (λ (r : Row). is_below (r.0) key) is ∙ ap (is_below (first.0)) (sym end.2) ∙ rise.0 end.0 end.1 in
      below_false key (row.0) (λ above. below_both (row.0) key below above)
  | inr d ↦ upto_last key (next ∷ rows) rise.1 ends row d
]

-- two pages that are apart lie as their first keys do
pub below_by_first : (a b : List Row) (j k : List ℕ) → Apart a b → StartsWith j a → StartsWith k b → is_below j k ≡ true → AllBelow a b
below_by_first a b j k (inl below) starts begins less = below
below_by_first a b j k (inr above) starts begins less =
    let x = first_row j a starts in
    let y = first_row k b begins in
    let more : is_below k j ≡ true = ap (λ (l : List ℕ). is_below l j) (sym y.2) ∙ ap (is_below (y.0.0)) (sym x.2) ∙ above y.0 x.0 y.1 x.1 in
    absurd (below_both j k less more)

key_is : (row : Row) (key : List ℕ) → ◌≡◌ {A = Option (List ℕ)} (Some (row.0)) (Some key) → row.0 ≡ key
key_is row key is = same_Some _ _ is

-- the keys that stand at the first place and at the last
pub starts_from : (rows : List Row) (key : List ℕ) → option_map (λ row. row.0) (slice_get rows 0) ≡ Some key → StartsWith key rows
starts_from [] key is = absurd (none-some key is)
starts_from (row ∷ rows) key is = key_is row key is

pub ends_from : (rows : List Row) (n : ℕ) (key : List ℕ) → n + 1 ≡ length rows → option_map (λ row. row.0) (slice_get rows n) ≡ Some key → EndsWith key rows
ends_from [] n key long is = absurd (omega (arith, long))
ends_from (row ∷ []) zero key long is = key_is row key is
ends_from (row ∷ []) (suc n) key long is = absurd (omega (arith, long))
ends_from (row ∷ next ∷ rows) zero key long is = absurd (omega (arith, long))
ends_from (row ∷ next ∷ rows) (suc n) key long is = ends_from (next ∷ rows) n key (omega (arith, long)) is
