-- The page where a key goes: that it is found by the first keys, whether it takes a row, and whether the key is above all.
use Rattle.std.proofs.Common.{◌≡◌, ◌⊎◌, ℕ, zero, ◌+◌, ◌-◌, ◌*◌, ◌<◌, ◌≤◌, true, false, List, [], length, get_or, Some, None, inl, inr, sym, ap, subst, ◌∙◌, arith}
use Rattle.std.specs.Prelude.{Contains, slice_get, is_some}
use Rattle.std.specs.Option.{option_map}
use Rattle.std.proofs.lemmas.Bool.{both_ways, cases_lt, cases_eq}
use Rattle.std.proofs.lemmas.Option.{slice_get_within, get_or_from_slice_get}
use Rattle.std.proofs.lemmas.List.{get_or_default}
use Rattle.std.proofs.lemmas.List.Sums.{prefix_len_passes, prefix_len_stops}
use Rattle.std.proofs.lemmas.List.Elements.{Contains-get_or}
use Rattle.std.proofs.Math.Nat.{le-div_iff_mul-le}
use Rattle.keyed_sets.specs.declared.row.RowShape.{RowShape}
use Rattle.keyed_sets.specs.declared.index.First.{First}
use Rattle.keyed_sets.specs.Layout.{Row, rows_in, count_of, end_of, row_length, is_below, place_of}
use Rattle.keyed_sets.specs.Map.{RowsRise, lookup}
use Rattle.keyed_sets.specs.Places.{HasNoRows, Takes, IsAboveAll}
use Rattle.keyed_sets.specs.Rule.{capacity, page_rows}
use Rattle.keyed_sets.specs.Goes.{GoesTo}
use Rattle.keyed_sets.specs.Standing.{IsIndex}
use Rattle.keyed_sets.specs.Taken.{AreApart}
use Rattle.keyed_sets.proofs.Keys.{below_both}
use Rattle.keyed_sets.proofs.Maps.{lookup_is, lookup_none}
use Rattle.keyed_sets.proofs.Members.{nothing_there, rise_at}
use Rattle.keyed_sets.proofs.Rows.{length-rows_in}
use Rattle.keyed_sets.proofs.Tables.{first_row}
use Rattle.keyed_sets.proofs.Openings.{IsSplit, nothing_or, before_by_first}
use Rattle.keyed_sets.proofs.Sets.{above_split}
use Rattle.keyed_sets.proofs.Lookups.{nowhere, key_at_is, missing_at}
use Rattle.keyed_sets.proofs.Putting.{IsNear, Beside, Under, Over, beside_page, home_is}

not_amid : (table : List (List Row)) (firsts : List First) (key : List ℕ) (at home : ℕ) (p : First) → AreApart table → IsIndex table firsts → IsNear key firsts at home p → home + 1 < length firsts → IsAboveAll key table → ⊥
not_amid table firsts key at home p apart index near lt above =
    let f : First = get_or firsts (home + 1) p in
    let is : get_or firsts (home + 1) f ≡ f = get_or_default firsts (home + 1) f p lt in
    let front = first_row f.key (page_rows table f.page) (index.starts f (home + 1, lt, is)) in
    below_both (front.0.0) key (above f.page front.0 front.1) (above_split table firsts key at apart index near.split f (home + 1) (omega (arith, near.home_is)) lt is front.0 front.1)

all_under : (table : List (List Row)) (firsts : List First) (key : List ℕ) (at home : ℕ) (p : First) → AreApart table → IsIndex table firsts → IsNear key firsts at home p → home + 1 ≡ length firsts
    → ((row : Row) → Contains (page_rows table p.page) row → is_below (row.0) key ≡ true) → IsAboveAll key table
all_under table firsts key at home p apart index near last below m x c = elim (cases_eq m p.page) [
  | inl same ↦ below x (subst (λ (k : ℕ). Contains (page_rows table k) x) same c)
  | inr other ↦ elim (beside_page table firsts key at home p apart index near m other) [
    | inl none ↦ absurd (nothing_there x (subst (λ (l : List Row). Contains l x) none c))
    | inr side ↦ one side
  ]
]
  where
    found : (f : First) × Contains firsts f × (f.page ≡ m)
    found = index.all m x c

    lower : (f : First) → Contains firsts f → (f.page ≡ p.page → ⊥) → is_below f.key p.key ≡ true
    lower f d apart_from = elim (cases_lt d.0 home) [
      | inl lt ↦ subst (λ (g : First). is_below g.key p.key ≡ true) d.2 (subst (λ (g : First). is_below (get_or firsts d.0 f).key g.key ≡ true) (get_or_default firsts home f p near.within ∙ near.is)
          (rise_at (λ (g : First). g.key) firsts index.rise d.0 home f lt near.within))
      | inr le ↦
          let same : d.0 ≡ home = omega (arith, last, d.1) in
          absurd (apart_from (ap (λ (g : First). g.page) (sym d.2 ∙ ap (λ (i : ℕ). get_or firsts i f) same ∙ get_or_default firsts home f p near.within ∙ near.is)))
    ]

    one : Beside key (page_rows table p.page) (page_rows table m) → is_below (x.0) key ≡ true
    one (Under j begins under less_all less) = less x c
    one (Over over more) = elim (cases_eq m p.page) [
      | inl same ↦ below x (subst (λ (k : ℕ). Contains (page_rows table k) x) same c)
      | inr other ↦
          let here : Contains firsts p = (home, near.within, near.is) in
          let front = first_row p.key (page_rows table p.page) (index.starts p here) in
          let in_page : Contains (page_rows table (found.0.page)) x = subst (λ (k : ℕ). Contains (page_rows table k) x) (sym found.2) c in
          absurd (below_both (x.0) (front.0.0) (before_by_first table firsts apart index found.0 p found.1 here (lower found.0 found.1 (λ is. other (sym found.2 ∙ is))) x front.0 in_page front.1) (over front.0 x front.1 c))
    ]

pub goes_to : (table : List (List Row)) (firsts : List First) (key : List ℕ) (at home : ℕ) (p : First) → AreApart table → IsIndex table firsts → IsSplit key firsts at → home ≡ at - 1 → slice_get firsts home ≡ Some p → GoesTo key table firsts home p
goes_to table firsts key at home p apart index split is there =
    let near : IsNear key firsts at home p = record { split = split; within = slice_get_within firsts home p there; is = get_or_from_slice_get firsts home p p there; home_is = is } in
    record {
      goes = home_is table firsts key at home p apart index near;
      amid = λ lt above. not_amid table firsts key at home p apart index near lt above;
      above = λ last below. all_under table firsts key at home p apart index near last below;
    }

-- whether a page takes a row
pub takes_is : (shape : RowShape) (page key : List ℕ) (at : ℕ) → 0 < shape.key → RowsRise (rows_in shape page) → ((at < count_of page) × (option_map (λ (r : Row). r.0) (slice_get (rows_in shape page) at) ≡ Some key)) ⊎ (end_of shape (count_of page + 1) ≤ 4096)
    → Takes (capacity shape) key (rows_in shape page)
takes_is shape page key at some rise (inl there) =
    let lt : at < length (rows_in shape page) = omega (arith, there.0, length-rows_in shape page) in
    inl (ap is_some (lookup_is key (rows_in shape page) rise (get_or (rows_in shape page) at nowhere) (Contains-get_or (rows_in shape page) at nowhere lt) (key_at_is (rows_in shape page) at key lt there.1)))
takes_is shape page key at some rise (inr room) =
    let pos : zero < row_length shape = omega arith in
    let one : count_of page + 1 ≤ capacity shape = (le-div_iff_mul-le {k = row_length shape} {x = count_of page + 1} {y = 4080} pos).1 (omega (arith, turned shape (count_of page + 1))) in
    inr (omega (arith, one, length-rows_in shape page))
  where
    turned : (s : RowShape) (n : ℕ) → n * row_length s ≡ row_length s * n
    turned s n = omega arith

pub takes_not : (shape : RowShape) (page key : List ℕ) (at : ℕ) → 0 < shape.key → RowsRise (rows_in shape page) → at ≡ place_of key (rows_in shape page)
    → (((at < count_of page) × (option_map (λ (r : Row). r.0) (slice_get (rows_in shape page) at) ≡ Some key)) ⊎ (end_of shape (count_of page + 1) ≤ 4096) → ⊥) → Takes (capacity shape) key (rows_in shape page) → ⊥
takes_not shape page key at some rise place full (inl found) =
    let none : lookup key (rows_in shape page) ≡ None = lookup_none key (rows_in shape page) (missing_at (rows_in shape page) at key rise place (λ there. full (inl (omega (arith, there.0, length-rows_in shape page), there.1)))) in
    both_ways (is_some (lookup key (rows_in shape page))) (ap is_some none) found
takes_not shape page key at some rise place full (inr lt) =
    let pos : zero < row_length shape = omega arith in
    let one : count_of page + 1 ≤ capacity shape = omega (arith, lt, length-rows_in shape page) in
    let few = (le-div_iff_mul-le {k = row_length shape} {x = count_of page + 1} {y = 4080} pos).0 one in
    full (inr (omega (arith, few, turned shape (count_of page + 1))))
  where
    turned : (s : RowShape) (n : ℕ) → n * row_length s ≡ row_length s * n
    turned s n = omega arith

pub full_many : (shape : RowShape) (key : List ℕ) (rows : List Row) → 0 < shape.key → row_length shape ≤ 2040 → (Takes (capacity shape) key rows → ⊥) → 2 ≤ length rows
full_many shape key rows some short full =
    let pos : zero < row_length shape = omega arith in
    let two : 2 ≤ capacity shape = (le-div_iff_mul-le {k = row_length shape} {x = 2} {y = 4080} pos).1 (omega (arith, short)) in
    elim (cases_lt (length rows) (capacity shape)) [ inl lt ↦ absurd (full (inr lt)) | inr le ↦ omega (arith, le, two) ]

-- the keys of a page and the place of a key
pub all_before : (key : List ℕ) (rows : List Row) → place_of key rows ≡ length rows → (x : Row) → Contains rows x → is_below (x.0) key ≡ true
all_before key rows is x c = subst (λ (r : Row). is_below (r.0) key ≡ true) c.2 (prefix_len_passes (λ (row : Row). is_below (row.0) key) rows c.0 x (omega (arith, c.1, is)))

pub one_behind : (key : List ℕ) (rows : List Row) → place_of key rows < length rows → (x : Row) × Contains rows x × (is_below (x.0) key ≡ false)
one_behind key rows lt = (get_or rows (place_of key rows) nowhere, Contains-get_or rows (place_of key rows) nowhere lt, prefix_len_stops (λ (row : Row). is_below (row.0) key) rows nowhere lt)

-- a set without rows
pub no_rows : (table : List (List Row)) (firsts : List First) → IsIndex table firsts → firsts ≡ [] → HasNoRows table
no_rows table firsts index none m = elim (nothing_or (page_rows table m)) [
  | inl is ↦ is
  | inr some ↦ let found = index.all m some.0 some.1 in absurd (nothing_there found.0 (subst (λ (l : List First). Contains l found.0) none found.1))
]
