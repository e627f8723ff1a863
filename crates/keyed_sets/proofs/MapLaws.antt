-- A key's body after a row was put in or taken away.
use Rattle.std.proofs.Common.{◌≡◌, ◌⊎◌, ℕ, Bool, false, cond, List, [], ◌∷◌, map, Some, None, inl, inr, refl, sym, ap, ◌∙◌}
use Rattle.std.specs.Prelude.{Contains}
use Rattle.std.specs.Str.{bytes_eq}
use Rattle.std.proofs.lemmas.Option.{none-some, same_Some}
use Rattle.keyed_sets.specs.Layout.{Row}
use Rattle.keyed_sets.specs.Map.{RowsRise, lookup, with_row, without_row}
use Rattle.keyed_sets.proofs.Keys.{below_itself, below_trans, three_ways}
use Rattle.keyed_sets.proofs.Members.{at_front, further, front_or}
use Rattle.keyed_sets.proofs.Maps.{row_behind, row_over, IsAmong, same_key, other_key, same_or, lookup_is, lookup_none, with_row_has, with_row_new, with_row_old, with_row_rises, without_row_has, without_row_old, without_row_rises}
use Rattle.keyed_sets.proofs.Sets.{same_lookup, has_or}

pub put_lookup : (key : List ℕ) (row : Row) (rows : List Row) → RowsRise rows → lookup key (with_row row rows) ≡ cond (bytes_eq (row.0) key) (Some (row.1)) (lookup key rows)
put_lookup key row rows rise = elim (same_or (row.0) key) [
  | inl same ↦ lookup_is key (with_row row rows) (with_row_rises row rows rise) row (with_row_new row rows) same
      ∙ ap (λ (b : Bool). cond b (Some (row.1)) (lookup key rows)) (sym (same_key (row.0) key same))
  | inr apart ↦ elsewhere apart (has_or key rows) ∙ ap (λ (b : Bool). cond b (Some (row.1)) (lookup key rows)) (sym (other_key (row.0) key apart))
]
  where
    here : (row.0 ≡ key → ⊥) → ((x : Row) → Contains rows x → x.0 ≡ key → ⊥) → (x : Row) → x.0 ≡ key → IsAmong row rows x → ⊥
    here apart none x is (inl new) = apart (ap (λ (r : Row). r.0) (sym new) ∙ is)
    here apart none x is (inr old) = none x old.0 is

    elsewhere : (row.0 ≡ key → ⊥) → ((x : Row) × Contains rows x × (x.0 ≡ key)) ⊎ ((x : Row) → Contains rows x → x.0 ≡ key → ⊥) → lookup key (with_row row rows) ≡ lookup key rows
    elsewhere apart (inl found) =
        lookup_is key (with_row row rows) (with_row_rises row rows rise) found.0 (with_row_old row rows found.0 found.1 (λ same. apart (sym same ∙ found.2))) found.2
        ∙ sym (lookup_is key rows rise found.0 found.1 found.2)
    elsewhere apart (inr none) =
        lookup_none key (with_row row rows) (λ x c is. here apart none x is (with_row_has row rows rise x c)) ∙ sym (lookup_none key rows none)

pub removed_lookup : (gone key : List ℕ) (rows : List Row) → RowsRise rows → lookup key (without_row gone rows) ≡ cond (bytes_eq gone key) None (lookup key rows)
removed_lookup gone key rows rise = elim (same_or gone key) [
  | inl same ↦ lookup_none key (without_row gone rows) (λ x c is. (without_row_has gone rows rise x c).1 (is ∙ sym same))
      ∙ ap (λ (b : Bool). cond b None (lookup key rows)) (sym (same_key gone key same))
  | inr apart ↦ same_lookup key rows (without_row gone rows) rise (without_row_rises gone rows rise) (λ x c. (without_row_has gone rows rise x c).0) (λ x c is. without_row_old gone rows x c (λ same. apart (sym same ∙ is)))
      ∙ ap (λ (b : Bool). cond b None (lookup key rows)) (sym (other_key gone key apart))
]

-- a row put over one of its key
abbrev pub over : Row → Row → Row
over row other = cond (bytes_eq (other.0) (row.0)) row other

over_none : (row : Row) (rows : List Row) → ((x : Row) → Contains rows x → x.0 ≡ row.0 → ⊥) → map (over row) rows ≡ rows
over_none row [] none = refl
over_none row (next ∷ rows) none =
    ap (λ (b : Bool). cond b row next ∷ map (over row) rows) (other_key (next.0) (row.0) (none next (at_front next rows))) ∙ ap (λ (l : List Row). next ∷ l) (over_none row rows (λ x c. none x (further next rows x c)))

pub put_over : (row : Row) (body : List ℕ) (rows : List Row) → RowsRise rows → lookup (row.0) rows ≡ Some body → with_row row rows ≡ map (over row) rows
put_over row body [] rise is = absurd (none-some body is)
put_over row body (next ∷ rows) rise is = elim (three_ways (next.0) (row.0)) [
  | inl below ↦
      let other : bytes_eq (next.0) (row.0) ≡ false = other_key (next.0) (row.0) (below_itself (next.0) (row.0) below) in
      row_behind row next rows below ∙ ap (λ (l : List Row). next ∷ l) (put_over row body rows rise.1 (sym (ap (λ (b : Bool). cond b (Some (next.1)) (lookup (row.0) rows)) other) ∙ is))
      ∙ sym (ap (λ (b : Bool). cond b row next ∷ map (over row) rows) other)
  | inr (inl same) ↦
      row_over row next rows (sym same) ∙ ap (λ (l : List Row). row ∷ l) (sym (over_none row rows (λ x c key. below_itself (next.0) (x.0) (rise.0 x c) (same ∙ sym key))))
      ∙ sym (ap (λ (b : Bool). cond b row next ∷ map (over row) rows) (same_key (next.0) (row.0) same))
  | inr (inr above) ↦ absurd (none-some body (sym (lookup_none (row.0) (next ∷ rows) (λ x c key. elim (front_or next rows x c) [
    | inl front ↦ below_itself (row.0) (next.0) above (sym key ∙ ap (λ (r : Row). r.0) front)
    | inr behind ↦ below_itself (row.0) (x.0) (below_trans (row.0) (next.0) (x.0) above (rise.0 x behind)) (sym key)
  ])) ∙ is))
]

pub one_body : (key body : List ℕ) (rows : List Row) (row : Row) → RowsRise rows → lookup key rows ≡ Some body → Contains rows row → row.0 ≡ key → row.1 ≡ body
one_body key body rows row rise is c same = same_Some _ _ (sym (lookup_is key rows rise row c same) ∙ is)
