-- What a set answers where a row is looked up in one page.
use Rattle.std.proofs.Common.{◌≡◌, ℕ, ◌<◌, true, false, List, [], length, get_or, Some, None, inl, inr, sym, ap, subst, ◌∙◌, arith}
use Rattle.std.specs.Prelude.{Contains, slice_get}
use Rattle.std.specs.Option.{option_map}
use Rattle.std.proofs.lemmas.Bool.{both_ways, cases_order}
use Rattle.std.proofs.lemmas.Option.{same_Some, slice_get-get_or, slice_get_within, get_or_from_slice_get}
use Rattle.std.proofs.lemmas.List.{get_or-map}
use Rattle.std.proofs.lemmas.List.Elements.{Contains-get_or}
use Rattle.std.proofs.lemmas.List.Sums.{prefix_len_passes, prefix_len_stops}
use Rattle.keyed_sets.specs.declared.row.RowShape.{RowShape}
use Rattle.keyed_sets.specs.declared.index.First.{First}
use Rattle.keyed_sets.specs.Layout.{Row, rows_in, is_below, place_of}
use Rattle.keyed_sets.specs.Map.{RowsRise, lookup, rows_of}
use Rattle.keyed_sets.specs.Rule.{KeepsRule, Rise, tables, page_rows}
use Rattle.keyed_sets.specs.Standing.{Stands, no_first}
use Rattle.keyed_sets.proofs.Keys.{below_itself}
use Rattle.keyed_sets.proofs.Maps.{lookup_is, lookup_none}
use Rattle.keyed_sets.proofs.Members.{rise_at, rise_one}
use Rattle.keyed_sets.proofs.Openings.{IsSplit}
use Rattle.keyed_sets.proofs.Sets.{lawful, row_in, above_split, Here, Lower, Behind, side_of}

pub nowhere : Row
nowhere = ([], [])

pub key_at_is : (rows : List Row) (at : ℕ) (key : List ℕ) → at < length rows → option_map (λ row. row.0) (slice_get rows at) ≡ Some key → (get_or rows at nowhere).0 ≡ key
key_at_is rows at key lt is = same_Some _ _ (sym (ap (option_map (λ (row : Row). row.0)) (slice_get-get_or rows at nowhere lt)) ∙ is)

pub body_at_is : (rows : List Row) (at : ℕ) (body : List ℕ) → at < length rows → option_map (λ row. row.1) (slice_get rows at) ≡ Some body → (get_or rows at nowhere).1 ≡ body
body_at_is rows at body lt is = same_Some _ _ (sym (ap (option_map (λ (row : Row). row.1)) (slice_get-get_or rows at nowhere lt)) ∙ is)

pub found_at : (rows : List Row) (at : ℕ) (key body : List ℕ) → RowsRise rows → at < length rows → option_map (λ row. row.0) (slice_get rows at) ≡ Some key → option_map (λ row. row.1) (slice_get rows at) ≡ Some body → Some body ≡ lookup key rows
found_at rows at key body rise lt keyed bodied =
    sym (lookup_is key rows rise (get_or rows at nowhere) (Contains-get_or rows at nowhere lt) (key_at_is rows at key lt keyed) ∙ ap (λ (b : List ℕ). Some b) (body_at_is rows at body lt bodied))

-- no row has a key that the row at its place hasn't
pub missing_at : (rows : List Row) (at : ℕ) (key : List ℕ) → RowsRise rows → at ≡ place_of key rows → ((at < length rows) × (option_map (λ row. row.0) (slice_get rows at) ≡ Some key) → ⊥) → (x : Row) → Contains rows x → x.0 ≡ key → ⊥
missing_at rows at key rise place missing x c is =
    let here : (get_or rows c.0 x).0 ≡ key = ap (λ (r : Row). r.0) c.2 ∙ is in
    elim (cases_order c.0 at) [
      | inl same ↦
          let lt : at < length rows = omega (arith, c.1, same) in
          let keyed : (get_or rows at x).0 ≡ key = ap (λ (i : ℕ). (get_or rows i x).0) (sym same) ∙ here in
          missing (lt, ap (option_map (λ (row : Row). row.0)) (slice_get-get_or rows at x lt) ∙ ap (λ (k : List ℕ). Some k) keyed)
      | inr (inl lt) ↦
          below_itself ((get_or rows c.0 x).0) key (prefix_len_passes (λ (row : Row). is_below (row.0) key) rows c.0 x (omega (arith, lt, place))) here
      | inr (inr gt) ↦
          let within : place_of key rows < length rows = omega (arith, gt, place, c.1) in
          let stops : is_below ((get_or rows (place_of key rows) x).0) key ≡ false = prefix_len_stops (λ (row : Row). is_below (row.0) key) rows x within in
          let rises = rise_at (λ (r : Row). r.0) rows rise (place_of key rows) c.0 x (omega (arith, gt, place)) c.1 in
          both_ways _ stops (ap (is_below ((get_or rows (place_of key rows) x).0)) (sym here) ∙ rises)
    ]

-- the rows of a page that was read
pub page_is : (shape : RowShape) (pages : List (List ℕ)) (n : ℕ) (page : List ℕ) → slice_get pages n ≡ Some page → page_rows (tables shape pages) n ≡ rows_in shape page
page_is shape pages n page there = get_or-map (rows_in shape) pages n page [] (slice_get_within pages n page there) ∙ ap (rows_in shape) (get_or_from_slice_get pages n page page there)

pub above_all : (shape : RowShape) (pages : List (List ℕ)) (firsts : List First) (empty : List ℕ) (key : List ℕ) → Stands shape firsts empty pages → IsSplit key firsts 0 → (x : Row) → Contains (rows_of shape pages) x → is_below key (x.0) ≡ true
above_all shape pages firsts empty key stands split x c = elim (side_of (tables shape pages) firsts 0 no_first no_first (lawful shape pages stands.rule) stands.index split.within (λ some. absurd (omega arith)) x (row_in shape pages x c)) [
  | Here some d ↦ absurd (omega arith)
  | Lower some below ↦ absurd (omega arith)
  | Behind f k le lt is d ↦ above_split (tables shape pages) firsts key 0 (lawful shape pages stands.rule) stands.index split f k le lt is x d
]

pub nothing_found : (shape : RowShape) (pages : List (List ℕ)) (firsts : List First) (empty : List ℕ) (key : List ℕ) → Stands shape firsts empty pages → IsSplit key firsts 0 → None ≡ lookup key (rows_of shape pages)
nothing_found shape pages firsts empty key stands split =
    sym (lookup_none key (rows_of shape pages) (λ x c is. below_itself key (x.0) (above_all shape pages firsts empty key stands split x c) (sym is)))

pub page_rises : (shape : RowShape) (pages : List (List ℕ)) (n : ℕ) (page : List ℕ) → KeepsRule shape pages → slice_get pages n ≡ Some page → Rise (rows_in shape page)
page_rises shape pages n page rule there = rise_one (rows_in shape page) (subst RowsRise (page_is shape pages n page there) ((lawful shape pages rule).rise n))
