-- The rows next to a key, found in the page where it belongs or the one behind it.
use Rattle.std.proofs.Common.{◌≡◌, ◌⊎◌, ℕ, ◌+◌, ◌-◌, ◌<◌, ◌≤◌, Bool, true, false, cond, List, [], ◌∷◌, length, get_or, Option, Some, None, inl, inr, refl, sym, ap, subst, ◌∙◌, arith}
use Rattle.std.specs.Prelude.{Contains, slice_get}
use Rattle.std.specs.List.{AllWithin}
use Rattle.std.specs.Option.{option_and_then, option_map}
use Rattle.std.proofs.lemmas.Bool.{both_ways, cases_lt, cases_eq, cases_order}
use Rattle.std.proofs.lemmas.Option.{same_Some, none-some, slice_get-get_or, slice_get_within, slice_get_past, get_or_from_slice_get}
use Rattle.std.proofs.lemmas.List.{get_or_default}
use Rattle.std.proofs.lemmas.List.Elements.{Contains-get_or}
use Rattle.std.proofs.lemmas.List.Sums.{prefix_len_passes, prefix_len_stops}
use Rattle.keyed_sets.specs.declared.row.RowShape.{RowShape}
use Rattle.keyed_sets.specs.declared.index.First.{First}
use Rattle.keyed_sets.specs.Layout.{Row, is_below, place_of}
use Rattle.keyed_sets.specs.Map.{RowsRise, KeysRise, first_above, next_after, last_below, rows_of}
use Rattle.keyed_sets.specs.Rule.{tables, page_rows}
use Rattle.keyed_sets.specs.Standing.{StartsWith, IsIndex, Stands, no_first}
use Rattle.keyed_sets.specs.Taken.{AreApart}
use Rattle.keyed_sets.proofs.Keys.{below_both, below_itself, below_trans, below_false, below_upto, three_ways}
use Rattle.keyed_sets.proofs.Maps.{above_is, above_none, least_is, least_none, below_is, below_none}
use Rattle.keyed_sets.proofs.Members.{nothing_there, at_front, further, front_or, rise_at}
use Rattle.keyed_sets.proofs.Tables.{from_first}
use Rattle.keyed_sets.proofs.Openings.{IsSplit, before_by_first}
use Rattle.keyed_sets.proofs.Sets.{lawful, row_in, in_rows, rows_rise, Here, Lower, Behind, side_of}
use Rattle.keyed_sets.proofs.Lookups.{missing_at}

-- a row by its key and its body
both_parts : (o : Option Row) (k b : List ℕ) → option_map (λ row. row.0) o ≡ Some k → option_map (λ row. row.1) o ≡ Some b → o ≡ Some (k, b)
both_parts None k b keyed bodied = absurd (none-some k keyed)
both_parts (Some row) k b keyed bodied =
    let first : row.0 ≡ k = same_Some _ _ keyed in
    let second : row.1 ≡ b = same_Some _ _ bodied in
    ap (λ (x : List ℕ). Some (x, row.1)) first ∙ ap (λ (y : List ℕ). Some (k, y)) second

pub row_is : (rows : List Row) (at : ℕ) (key body k b : List ℕ) → k ≡ key → b ≡ body → option_map (λ row. row.0) (slice_get rows at) ≡ Some key → option_map (λ row. row.1) (slice_get rows at) ≡ Some body → slice_get rows at ≡ Some (k, b)
row_is rows at key body k b same too keyed bodied = both_parts (slice_get rows at) k b (keyed ∙ ap (λ (x : List ℕ). Some x) (sym same)) (bodied ∙ ap (λ (x : List ℕ). Some x) (sym too))

-- the rows that aren't above a key, where its row is there and where it isn't
pub past_found : (rows : List Row) (at : ℕ) (key : List ℕ) → RowsRise rows → at ≡ place_of key rows → at < length rows → option_map (λ row. row.0) (slice_get rows at) ≡ Some key
    → AllWithin (λ (row : Row). is_below key (row.0) ≡ false) rows 0 (at + 1) × AllWithin (λ (row : Row). is_below key (row.0) ≡ true) rows (at + 1) (length rows)
past_found rows at key rise place lt keyed = (
  λ k d low high. elim (cases_eq k at) [
    | inl same ↦ below_false key ((get_or rows k d).0) (λ above. below_itself key ((get_or rows k d).0) above (sym (ap (λ (i : ℕ). (get_or rows i d).0) same ∙ here d)))
    | inr other ↦ below_false key ((get_or rows k d).0) (λ above. below_both key ((get_or rows k d).0) above (prefix_len_passes (λ (row : Row). is_below (row.0) key) rows k d (omega (arith, place))))
  ],
  λ k d low high. ap (λ (x : List ℕ). is_below x ((get_or rows k d).0)) (sym (here d)) ∙ rise_at (λ (r : Row). r.0) rows rise at k d (omega arith) high,
)
  where
    here : (d : Row) → (get_or rows at d).0 ≡ key
    here d = same_Some _ _ (sym (ap (option_map (λ (row : Row). row.0)) (slice_get-get_or rows at d lt)) ∙ keyed)

pub past_missing : (rows : List Row) (at : ℕ) (key : List ℕ) → RowsRise rows → at ≡ place_of key rows → ((at < length rows) × (option_map (λ row. row.0) (slice_get rows at) ≡ Some key) → ⊥)
    → AllWithin (λ (row : Row). is_below key (row.0) ≡ false) rows 0 at × AllWithin (λ (row : Row). is_below key (row.0) ≡ true) rows at (length rows)
past_missing rows at key rise place missing = (
  λ k d low high. below_false key ((get_or rows k d).0) (λ above. below_both key ((get_or rows k d).0) above (prefix_len_passes (λ (row : Row). is_below (row.0) key) rows k d (omega (arith, place)))),
  λ k d low high. elim (three_ways key ((get_or rows k d).0)) [
    | inl above ↦ above
    | inr (inl same) ↦ absurd (missing_at rows at key rise place missing (get_or rows k d) (Contains-get_or rows k d high) (sym same))
    | inr (inr below) ↦
        let within : place_of key rows < length rows = omega (arith, place) in
        let stops : is_below ((get_or rows (place_of key rows) d).0) key ≡ false = prefix_len_stops (λ (row : Row). is_below (row.0) key) rows d within in
        absurd (elim (cases_eq k (place_of key rows)) [
          | inl is ↦ both_ways _ stops (ap (λ (i : ℕ). is_below ((get_or rows i d).0) key) (sym is) ∙ below)
          | inr other ↦ both_ways _ stops (below_trans ((get_or rows (place_of key rows) d).0) ((get_or rows k d).0) key (rise_at (λ (r : Row). r.0) rows rise (place_of key rows) k d (omega (arith, place)) high) below)
        ])
  ],
)

-- the first row above a key among rows of which so many aren't
pub first_past : (rows : List Row) (past : ℕ) (key : List ℕ) (row : Row) → RowsRise rows → AllWithin (λ (row : Row). is_below key (row.0) ≡ false) rows 0 past → AllWithin (λ (row : Row). is_below key (row.0) ≡ true) rows past (length rows)
    → slice_get rows past ≡ Some row → Some row ≡ first_above key rows
first_past rows past key row rise upto above there =
    let within : past < length rows = slice_get_within rows past row there in
    let is : get_or rows past row ≡ row = get_or_from_slice_get rows past row row there in
    sym (above_is key rows rise row (past, within, is) (ap (λ (r : Row). is_below key (r.0)) (sym is) ∙ above past row (omega arith) within) (λ y c over under. elim (cases_order c.0 past) [
      | inl same ↦ below_itself (y.0) (row.0) under (ap (λ (r : Row). r.0) (sym c.2 ∙ ap (λ (i : ℕ). get_or rows i y) same ∙ get_or_default rows past y row within ∙ is))
      | inr (inl lt) ↦ both_ways (is_below key (y.0)) (ap (λ (r : Row). is_below key (r.0)) (sym c.2) ∙ upto c.0 y (omega arith) lt) over
      | inr (inr gt) ↦
          let rises = rise_at (λ (r : Row). r.0) rows rise past c.0 y gt c.1 in
          below_both (y.0) (row.0) under (ap (λ (r : Row). is_below (r.0) (y.0)) (sym (get_or_default rows past y row within ∙ is)) ∙ ap (λ (r : Row). is_below ((get_or rows past y).0) (r.0)) (sym c.2) ∙ rises)
    ]))

pub none_past : (rows : List Row) (past : ℕ) (key : List ℕ) → AllWithin (λ (row : Row). is_below key (row.0) ≡ false) rows 0 past → past ≡ length rows → None ≡ first_above key rows
none_past rows past key upto all = sym (above_none key rows (λ x c above. both_ways (is_below key (x.0)) (ap (λ (r : Row). is_below key (r.0)) (sym c.2) ∙ upto c.0 x (omega arith) (omega (arith, c.1, all))) above))

-- what a row that was found among rows says
first_step : (b : Bool) (row r : Row) (rest : Option Row) → cond b (Some row) rest ≡ Some r → ((b ≡ true) × (r ≡ row)) ⊎ ((b ≡ false) × (rest ≡ Some r))
first_step true row r rest is = inl (refl, sym (same_Some _ _ is))
first_step false row r rest is = inr (refl, is)

pub found_above : (key : List ℕ) (rows : List Row) (r : Row) → RowsRise rows → first_above key rows ≡ Some r → Contains rows r × (is_below key (r.0) ≡ true) × ((y : Row) → Contains rows y → is_below key (y.0) ≡ true → is_below (y.0) (r.0) ≡ true → ⊥)
found_above key [] r rise is = absurd (none-some r is)
found_above key (row ∷ rows) r rise is = elim (first_step (is_below key (row.0)) row r (first_above key rows) is) [
  | inl here ↦ (
    subst (Contains (row ∷ rows)) (sym here.1) (at_front row rows),
    ap (λ (x : Row). is_below key (x.0)) here.1 ∙ here.0,
    λ y c above under. elim (front_or row rows y c) [
      | inl same ↦ below_itself (y.0) (r.0) under (ap (λ (x : Row). x.0) (same ∙ sym here.1))
      | inr d ↦ below_both (y.0) (r.0) under (ap (λ (x : Row). is_below (x.0) (y.0)) here.1 ∙ rise.0 y d)
    ],
  )
  | inr later ↦
      let found = found_above key rows r rise.1 later.1 in (
        further row rows r found.0,
        found.1,
        λ y c above under. elim (front_or row rows y c) [
          | inl same ↦ both_ways (is_below key (row.0)) later.0 (ap (λ (x : Row). is_below key (x.0)) (sym same) ∙ above)
          | inr d ↦ found.2 y d above under
        ],
      )
]

none_step : (b : Bool) (row : Row) (rest : Option Row) → cond b (Some row) rest ≡ None → (b ≡ false) × (rest ≡ None)
none_step true row rest is = absurd (none-some row (sym is))
none_step false row rest is = (refl, is)

pub none_above : (key : List ℕ) (rows : List Row) → first_above key rows ≡ None → (y : Row) → Contains rows y → is_below key (y.0) ≡ true → ⊥
none_above key [] is y c above = nothing_there y c
none_above key (row ∷ rows) is y c above =
    let step = none_step (is_below key (row.0)) row (first_above key rows) is in
    elim (front_or row rows y c) [
      | inl same ↦ both_ways (is_below key (row.0)) step.0 (ap (λ (x : Row). is_below key (x.0)) (sym same) ∙ above)
      | inr d ↦ none_above key rows step.1 y d above
    ]

-- the next row of a set stands in the page where the key belongs
pub next_here : (shape : RowShape) (pages : List (List ℕ)) (firsts : List First) (empty : List ℕ) (key : List ℕ) (at : ℕ) (p : First) (r : Row) → Stands shape firsts empty pages → IsSplit key firsts at → 0 < at → p ≡ get_or firsts (at - 1) p
    → first_above key (page_rows (tables shape pages) p.page) ≡ Some r → first_above key (rows_of shape pages) ≡ Some r
next_here shape pages firsts empty key at p r stands split some is found =
    let table : List (List Row) = tables shape pages in
    let apart = lawful shape pages stands.rule in
    let row = found_above key (page_rows table p.page) r (apart.rise p.page) found in
    let under : is_below key p.key ≡ false = subst (λ (f : First). is_below key f.key ≡ false) (sym is) (split.upto (at - 1) p (omega arith) (omega arith)) in
    let in_firsts : Contains firsts p = (at - 1, omega (arith, split.within), sym is) in
    above_is key (rows_of shape pages) (rows_rise shape pages) r (in_rows shape pages apart r (p.page, row.0)) row.1 (λ y c over low. elim (side_of table firsts at p p apart stands.index split.within (λ more. is) y (row_in shape pages y c)) [
      | Here more d ↦ row.2 y d over low
      | Lower more below ↦ below_both key (y.0) over (below_upto (y.0) p.key key below under)
      | Behind f k le lt same d ↦
          let order : is_below p.key f.key ≡ true = subst (λ (g : First). is_below p.key g.key ≡ true) same (subst (λ (g : First). is_below g.key (get_or firsts k f).key ≡ true) (get_or_default firsts (at - 1) f p (omega (arith, split.within)) ∙ sym is)
          (rise_at (λ (g : First). g.key) firsts stands.index.rise (at - 1) k f (omega arith) lt)) in
          below_both (y.0) (r.0) low (before_by_first table firsts apart stands.index p f in_firsts (k, lt, same) order r y row.0 d)
    ])

first_of : (key : List ℕ) (rows : List Row) → StartsWith key rows → (row : Row) × (slice_get rows 0 ≡ Some row) × Contains rows row × (row.0 ≡ key)
first_of key [] starts = absurd starts
first_of key (row ∷ rows) starts = (row, refl, at_front row rows, starts)

abbrev pub front_at : List (List Row) → List First → ℕ → Option Row
front_at table firsts at = option_and_then (λ (first : First). slice_get (page_rows table first.page) 0) (slice_get firsts at)

-- a row behind a place isn't below the first one there
not_lower : (table : List (List Row)) (firsts : List First) → AreApart table → IsIndex table firsts → (at : ℕ) (p : First) → at < length firsts → get_or firsts at p ≡ p → (f : First) (k : ℕ) → at ≤ k → k < length firsts → get_or firsts k f ≡ f
    → (y : Row) → Contains (page_rows table f.page) y → is_below (y.0) p.key ≡ true → ⊥
not_lower table firsts apart index at p within is f k le lt same y c low =
    let from : is_below (y.0) f.key ≡ false = from_first f.key (page_rows table f.page) (apart.rise f.page) (index.starts f (k, lt, same)) y c in
    elim (cases_eq at k) [
      | inl one ↦
          let equal : p ≡ f = sym is ∙ ap (λ (i : ℕ). get_or firsts i p) one ∙ get_or_default firsts k p f lt ∙ same in
          both_ways (is_below (y.0) f.key) from (ap (λ (g : First). is_below (y.0) g.key) (sym equal) ∙ low)
      | inr other ↦
          let order : is_below p.key f.key ≡ true = subst (λ (g : First). is_below p.key g.key ≡ true) same (subst (λ (g : First). is_below g.key (get_or firsts k f).key ≡ true) (get_or_default firsts at f p within ∙ is)
          (rise_at (λ (g : First). g.key) firsts index.rise at k f (omega arith) lt)) in
          both_ways (is_below (y.0) f.key) from (below_trans (y.0) p.key f.key low order)
    ]

-- or it is the first of the page behind
pub next_behind : (shape : RowShape) (pages : List (List ℕ)) (firsts : List First) (empty : List ℕ) (key : List ℕ) (at : ℕ) (p : First) → Stands shape firsts empty pages → IsSplit key firsts at → (0 < at → p ≡ get_or firsts (at - 1) p)
    → (0 < at → first_above key (page_rows (tables shape pages) p.page) ≡ None) → front_at (tables shape pages) firsts at ≡ first_above key (rows_of shape pages)
next_behind shape pages firsts empty key at p stands split is none =
    let table : List (List Row) = tables shape pages in
    let apart = lawful shape pages stands.rule in
    let all = rows_of shape pages in
    elim (cases_lt at (length firsts)) [
      | inl lt ↦
          let q : First = get_or firsts at no_first in
          let here : get_or firsts at q ≡ q = get_or_default firsts at q no_first lt in
          let row = first_of q.key (page_rows table q.page) (stands.index.starts q (at, lt, here)) in
          let over : is_below key q.key ≡ true = split.above at no_first (omega arith) lt in
          let found : front_at table firsts at ≡ Some row.0 = ap (option_and_then (λ (first : First). slice_get (page_rows table first.page) 0)) (slice_get-get_or firsts at no_first lt) ∙ row.1 in
          found ∙ sym (above_is key all (rows_rise shape pages) row.0 (in_rows shape pages apart row.0 (q.page, row.2)) (ap (is_below key) row.3 ∙ over) (λ y c above low.
          let lower : is_below (y.0) q.key ≡ true = ap (is_below (y.0)) (sym row.3) ∙ low in
          elim (side_of table firsts at p p apart stands.index split.within is y (row_in shape pages y c)) [
            | Here some d ↦ none_above key (page_rows table p.page) (none some) y d above
            | Lower some below ↦ below_both key (y.0) above (below_upto (y.0) p.key key below (subst (λ (f : First). is_below key f.key ≡ false) (sym (is some)) (split.upto (at - 1) p (omega arith) (omega arith))))
            | Behind f k le less same d ↦ not_lower table firsts apart stands.index at q lt here f k le less same y d lower
          ]))
      | inr past ↦ ap (option_and_then (λ (first : First). slice_get (page_rows table first.page) 0)) (slice_get_past firsts at past) ∙ sym (above_none key all (λ y c above.
          elim (side_of table firsts at p p apart stands.index split.within is y (row_in shape pages y c)) [
            | Here some d ↦ none_above key (page_rows table p.page) (none some) y d above
            | Lower some below ↦ below_both key (y.0) above (below_upto (y.0) p.key key below (subst (λ (f : First). is_below key f.key ≡ false) (sym (is some)) (split.upto (at - 1) p (omega arith) (omega arith))))
            | Behind f k le less same d ↦ absurd (omega arith)
          ]))
    ]

-- the first row of all
pub first_of_all : (shape : RowShape) (pages : List (List ℕ)) (firsts : List First) (empty : List ℕ) → Stands shape firsts empty pages → front_at (tables shape pages) firsts 0 ≡ next_after None (rows_of shape pages)
first_of_all shape pages firsts empty stands =
    let table : List (List Row) = tables shape pages in
    let apart = lawful shape pages stands.rule in
    let all = rows_of shape pages in
    elim (cases_lt 0 (length firsts)) [
      | inl lt ↦
          let q : First = get_or firsts 0 no_first in
          let here : get_or firsts 0 q ≡ q = get_or_default firsts 0 q no_first lt in
          let row = first_of q.key (page_rows table q.page) (stands.index.starts q (0, lt, here)) in
          let found : front_at table firsts 0 ≡ Some row.0 = ap (option_and_then (λ (first : First). slice_get (page_rows table first.page) 0)) (slice_get-get_or firsts 0 no_first lt) ∙ row.1 in
          found ∙ sym (least_is all (rows_rise shape pages) row.0 (in_rows shape pages apart row.0 (q.page, row.2)) (λ y c low.
          let lower : is_below (y.0) q.key ≡ true = ap (is_below (y.0)) (sym row.3) ∙ low in
          elim (side_of table firsts 0 q q apart stands.index (omega arith) (λ some. absurd (omega arith)) y (row_in shape pages y c)) [
            | Here some d ↦ absurd (omega arith)
            | Lower some below ↦ absurd (omega arith)
            | Behind f k le less same d ↦ not_lower table firsts apart stands.index 0 q lt here f k le less same y d lower
          ]))
      | inr past ↦ ap (option_and_then (λ (first : First). slice_get (page_rows table first.page) 0)) (slice_get_past firsts 0 past) ∙ sym (least_none all (λ y c.
          elim (side_of table firsts 0 no_first no_first apart stands.index (omega arith) (λ some. absurd (omega arith)) y (row_in shape pages y c)) [
            | Here some d ↦ absurd (omega arith)
            | Lower some below ↦ absurd (omega arith)
            | Behind f k le less same d ↦ absurd (omega arith)
          ]))
    ]

-- the pages that begin below a key, and the others
pub record IsCut (key : List ℕ) (firsts : List First) (at : ℕ) : Type 0 where
  pub within : at ≤ length firsts
  pub below : AllWithin (λ (first : First). is_below first.key key ≡ true) firsts 0 at
  pub onward : AllWithin (λ (first : First). is_below first.key key ≡ false) firsts at (length firsts)

pub cut_from : (key : List ℕ) (firsts held : List First) (at : ℕ) → held ≡ firsts → at ≤ length held
    → (KeysRise (λ (first : First). first.key) held → AllWithin (λ (first : First). is_below first.key key ≡ true) held 0 at)
    → (KeysRise (λ (first : First). first.key) held → AllWithin (λ (first : First). is_below first.key key ≡ false) held at (length held))
    → KeysRise (λ (first : First). first.key) firsts → IsCut key firsts at
cut_from key firsts held at same within below onward rise =
    let risen : KeysRise (λ (first : First). first.key) held = subst (KeysRise (λ (first : First). first.key)) (sym same) rise in
    subst (λ (l : List First). IsCut key l at) same (record { within = within; below = below risen; onward = onward risen })

-- no row of a page that doesn't begin below a key is below it
cut_behind : (table : List (List Row)) (firsts : List First) (key : List ℕ) (at : ℕ) → AreApart table → IsIndex table firsts → IsCut key firsts at → (f : First) (k : ℕ) → at ≤ k → k < length firsts → get_or firsts k f ≡ f
    → (y : Row) → Contains (page_rows table f.page) y → is_below (y.0) key ≡ true → ⊥
cut_behind table firsts key at apart index cut f k le lt same y c low =
    let onward : is_below f.key key ≡ false = subst (λ (g : First). is_below g.key key ≡ false) same (cut.onward k f le lt) in
    let from : is_below (y.0) f.key ≡ false = from_first f.key (page_rows table f.page) (apart.rise f.page) (index.starts f (k, lt, same)) y c in
    both_ways (is_below (y.0) f.key) from (below_upto (y.0) key f.key low onward)

pub nothing_before : (shape : RowShape) (pages : List (List ℕ)) (firsts : List First) (empty : List ℕ) (key : List ℕ) → Stands shape firsts empty pages → IsCut key firsts 0 → None ≡ last_below key (rows_of shape pages)
nothing_before shape pages firsts empty key stands cut =
    let table : List (List Row) = tables shape pages in
    let apart = lawful shape pages stands.rule in
    sym (below_none key (rows_of shape pages) (λ y c low. elim (side_of table firsts 0 no_first no_first apart stands.index cut.within (λ some. absurd (omega arith)) y (row_in shape pages y c)) [
      | Here some d ↦ absurd (omega arith)
      | Lower some below ↦ absurd (omega arith)
      | Behind f k le lt same d ↦ cut_behind table firsts key 0 apart stands.index cut f k le lt same y d low
    ]))

-- the last row below a key in its page is the last of all below it
pub last_before : (shape : RowShape) (pages : List (List ℕ)) (firsts : List First) (empty : List ℕ) (key : List ℕ) (at n : ℕ) (p : First) (r : Row) → Stands shape firsts empty pages → IsCut key firsts at → 0 < at → p ≡ get_or firsts (at - 1) p
    → n + 1 ≡ place_of key (page_rows (tables shape pages) p.page) → slice_get (page_rows (tables shape pages) p.page) n ≡ Some r → Some r ≡ last_below key (rows_of shape pages)
last_before shape pages firsts empty key at n p r stands cut some is place there =
    let table : List (List Row) = tables shape pages in
    let apart = lawful shape pages stands.rule in
    let rows : List Row = page_rows table p.page in
    let within : n < length rows = slice_get_within rows n r there in
    let here : get_or rows n r ≡ r = get_or_from_slice_get rows n r r there in
    let rise = apart.rise p.page in
    let in_firsts : Contains firsts p = (at - 1, omega (arith, cut.within), sym is) in
    let low : is_below (r.0) key ≡ true = ap (λ (x : Row). is_below (x.0) key) (sym here) ∙ prefix_len_passes (λ (row : Row). is_below (row.0) key) rows n r (omega (arith, place)) in
    sym (below_is key (rows_of shape pages) (rows_rise shape pages) r (in_rows shape pages apart r (p.page, (n, within, here))) low (λ y c under over. elim (side_of table firsts at p p apart stands.index cut.within (λ more. is) y (row_in shape pages y c)) [
      | Here more d ↦ elim (cases_order d.0 n) [
        | inl same ↦ below_itself (r.0) (y.0) over (ap (λ (x : Row). x.0) (sym here ∙ get_or_default rows n r y within ∙ ap (λ (i : ℕ). get_or rows i y) (sym same) ∙ d.2))
        | inr (inl lt) ↦
            let rises = rise_at (λ (x : Row). x.0) rows rise d.0 n y lt within in
            below_both (r.0) (y.0) over (ap (λ (x : Row). is_below (x.0) (r.0)) (sym d.2) ∙ ap (λ (x : Row). is_below ((get_or rows d.0 y).0) (x.0)) (sym (get_or_default rows n y r within ∙ here)) ∙ rises)
        | inr (inr gt) ↦
            let q : ℕ = place_of key rows in
            let stops : is_below ((get_or rows q y).0) key ≡ false = prefix_len_stops (λ (row : Row). is_below (row.0) key) rows y (omega (arith, place, gt, d.1)) in
            elim (cases_eq d.0 q) [
              | inl same ↦ both_ways _ stops (ap (λ (i : ℕ). is_below ((get_or rows i y).0) key) (sym same) ∙ ap (λ (x : Row). is_below (x.0) key) d.2 ∙ under)
              | inr other ↦ both_ways _ stops (below_trans ((get_or rows q y).0) (y.0) key (subst (λ (x : Row). is_below ((get_or rows q y).0) (x.0) ≡ true) d.2 (rise_at (λ (x : Row). x.0) rows rise q d.0 y (omega (arith, place, gt, other)) d.1)) under)
            ]
      ]
      | Lower more below ↦
          let from : is_below (r.0) p.key ≡ false = from_first p.key rows rise (stands.index.starts p in_firsts) r (n, within, here) in
          below_both (r.0) (y.0) over (below_upto (y.0) p.key (r.0) below from)
      | Behind f k le lt same d ↦ cut_behind table firsts key at apart stands.index cut f k le lt same y d under
    ]))
