-- A place in a page, found by halving: a row that is below a key stands before the place, any other stands behind.
use Rattle.std.proofs.Common.{◌≡◌, ℕ, ◌<◌, ◌≤◌, true, false, List, [], length, get_or, Some, sym, ap, ◌∙◌, inl, inr, arith}
use Rattle.std.specs.Prelude.{slice_get}
use Rattle.std.specs.Option.{option_map}
use Rattle.std.proofs.lemmas.Bool.{both_ways, cases_lt, cases_eq}
use Rattle.std.proofs.lemmas.Option.{same_Some, slice_get-get_or}
use Rattle.std.proofs.lemmas.List.Sums.{prefix_len_passes, prefix_len_stops}
use Rattle.keyed_sets.specs.Layout.{Row, is_below, place_of}
use Rattle.keyed_sets.specs.Rule.{Rise}
use Rattle.keyed_sets.proofs.Keys.{below_trans}
use Rattle.keyed_sets.proofs.Members.{rise_all, rise_at}

none : Row
none = ([], [])

key_is : (rows : List Row) (at : ℕ) (k : List ℕ) → at < length rows → option_map (λ row. row.0) (slice_get rows at) ≡ Some k → (get_or rows at none).0 ≡ k
key_is rows at k lt is = same_Some _ _ (sym (ap (option_map (λ (row : Row). row.0)) (slice_get-get_or rows at none lt)) ∙ is)

pub place_above : (key : List ℕ) (rows : List Row) (at : ℕ) (k : List ℕ) → Rise rows → at < length rows → option_map (λ row. row.0) (slice_get rows at) ≡ Some k → is_below k key ≡ true → at < place_of key rows
place_above key rows at k rise lt is below = elim (cases_lt at (place_of key rows)) [
  | inl before ↦ before
  | inr le ↦
      let q : ℕ = place_of key rows in
      let here : is_below ((get_or rows at none).0) key ≡ true = ap (λ (x : List ℕ). is_below x key) (key_is rows at k lt is) ∙ below in
      let under : is_below ((get_or rows q none).0) key ≡ true = elim (cases_eq q at) [
        | inl same ↦ ap (λ (i : ℕ). is_below ((get_or rows i none).0) key) same ∙ here
        | inr other ↦ below_trans ((get_or rows q none).0) ((get_or rows at none).0) key (rise_at (λ (r : Row). r.0) rows (rise_all rows rise) q at none (omega (arith, le, other)) lt) here
      ] in
      absurd (both_ways _ (prefix_len_stops (λ (row : Row). is_below (row.0) key) rows none (omega (arith, le, lt))) under)
]

pub place_upto : (key : List ℕ) (rows : List Row) (at : ℕ) (k : List ℕ) → at < length rows → option_map (λ row. row.0) (slice_get rows at) ≡ Some k → is_below k key ≡ false → place_of key rows ≤ at
place_upto key rows at k lt is not_below = elim (cases_lt at (place_of key rows)) [
  | inl before ↦ absurd (both_ways (is_below k key) not_below (ap (λ (x : List ℕ). is_below x key) (sym (key_is rows at k lt is)) ∙ prefix_len_passes (λ (row : Row). is_below (row.0) key) rows at none before))
  | inr le ↦ le
]
