-- The rows of a set are those of its pages, and each page is found by its first key.
use Rattle.std.proofs.Common.{◌≡◌, ◌⊎◌, ℕ, zero, suc, ◌-◌, ◌<◌, ◌≤◌, true, List, [], ◌∷◌, length, get_or, inl, inr, sym, ap, subst, ◌∙◌, arith}
use Rattle.std.specs.Prelude.{Contains}
use Rattle.std.specs.List.{flat_map}
use Rattle.std.proofs.lemmas.Bool.{cases_lt, cases_eq, cases_order}
use Rattle.std.proofs.lemmas.List.{length-map, get_or-map, get_or_default}
use Rattle.std.proofs.lemmas.List.Elements.{Contains-get_or, Contains-append_left, Contains-append_right, Contains-append_cases}
use Rattle.keyed_sets.specs.declared.row.RowShape.{RowShape}
use Rattle.keyed_sets.specs.declared.index.First.{First}
use Rattle.keyed_sets.specs.Layout.{Row, rows_in, is_below}
use Rattle.keyed_sets.specs.Map.{RowsRise, lookup, rows_of}
use Rattle.keyed_sets.specs.Rule.{KeepsRule, tables, page_rows}
use Rattle.keyed_sets.specs.Standing.{IsIndex}
use Rattle.keyed_sets.specs.Taken.{AreApart}
use Rattle.keyed_sets.proofs.Aparts.{apart_from}
use Rattle.keyed_sets.proofs.Keys.{below_itself, below_upto, three_ways}
use Rattle.keyed_sets.proofs.Maps.{one_row, lookup_is, lookup_none, in_order_rises, in_order_has, in_order_all}
use Rattle.keyed_sets.proofs.Members.{nothing_there, at_front, further, front_or, rise_all, rise_at}
use Rattle.keyed_sets.proofs.Tables.{page_past, apart_turned, apart_none, first_row, from_first}
use Rattle.keyed_sets.proofs.Openings.{IsSplit, before_by_first}

-- what a row among the pages of a table is
abbrev pub IsIn : List (List Row) → Row → Type 0
IsIn table row = (n : ℕ) × Contains (page_rows table n) row

pub lawful : (shape : RowShape) (pages : List (List ℕ)) → KeepsRule shape pages → AreApart (tables shape pages)
lawful shape pages rule = record {
  rise = λ n. elim (cases_lt n (length pages)) [
    | inl lt ↦ subst RowsRise (sym (get_or-map (rows_in shape) pages n [] [] lt)) (rise_all (rows_in shape (get_or pages n [])) (rule.each n [] lt).rising)
    | inr le ↦ subst RowsRise (sym (page_past (tables shape pages) n (omega (arith, length-map pages (rows_in shape))))) tt
  ];
  apart = λ m n other. elim (cases_lt m (length pages)) [
    | inl first ↦ elim (cases_lt n (length pages)) [
      | inl second ↦ elim (cases_order m n) [
        | inl same ↦ absurd (other same)
        | inr (inl lt) ↦ apart_from (page_rows (tables shape pages) m) (page_rows (tables shape pages) n) (rule.apart m n lt second)
        | inr (inr gt) ↦ apart_turned (page_rows (tables shape pages) n) (page_rows (tables shape pages) m) (apart_from (page_rows (tables shape pages) n) (page_rows (tables shape pages) m) (rule.apart n m gt first))
      ]
      | inr le ↦ apart_turned (page_rows (tables shape pages) n) (page_rows (tables shape pages) m)
          (apart_none (page_rows (tables shape pages) n) (page_rows (tables shape pages) m) (page_past (tables shape pages) n (omega (arith, length-map pages (rows_in shape)))))
    ]
    | inr le ↦ apart_none (page_rows (tables shape pages) m) (page_rows (tables shape pages) n) (page_past (tables shape pages) m (omega (arith, length-map pages (rows_in shape))))
  ];
}

-- in two pages there is no row of one key
pub one_place : (table : List (List Row)) → AreApart table → (m n : ℕ) (x y : Row) → Contains (page_rows table m) x → Contains (page_rows table n) y → x.0 ≡ y.0 → m ≡ n
one_place table apart m n x y c d is = elim (cases_eq m n) [
  | inl same ↦ same
  | inr other ↦ elim (apart.apart m n other) [
    | inl below ↦ absurd (below_itself (x.0) (y.0) (below x y c d) is)
    | inr above ↦ absurd (below_itself (y.0) (x.0) (above y x d c) (sym is))
  ]
]

pub one_in : (table : List (List Row)) → AreApart table → (x y : Row) → IsIn table x → IsIn table y → x.0 ≡ y.0 → x ≡ y
one_in table apart x y c d is =
    one_row (page_rows table c.0) (apart.rise c.0) x y c.1 (subst (λ (n : ℕ). Contains (page_rows table n) y) (sym (one_place table apart c.0 d.0 x y c.1 d.1 is)) d.1) is

pub flat_has : (shape : RowShape) (pages : List (List ℕ)) (x : Row) → Contains (flat_map (rows_in shape) pages) x → IsIn (tables shape pages) x
flat_has shape [] x c = absurd (nothing_there x c)
flat_has shape (page ∷ pages) x c = elim (Contains-append_cases (rows_in shape page) (flat_map (rows_in shape) pages) x c) [
  | inl here ↦ (0, here)
  | inr there ↦ let more = flat_has shape pages x there in (suc more.0, more.1)
]

pub flat_of : (shape : RowShape) (pages : List (List ℕ)) (n : ℕ) (x : Row) → Contains (page_rows (tables shape pages) n) x → Contains (flat_map (rows_in shape) pages) x
flat_of shape [] n x c = absurd (nothing_there x c)
flat_of shape (page ∷ pages) zero x c = Contains-append_left (rows_in shape page) (flat_map (rows_in shape) pages) x c
flat_of shape (page ∷ pages) (suc n) x c = Contains-append_right (rows_in shape page) (flat_map (rows_in shape) pages) x (flat_of shape pages n x c)

-- the rows of a set are those of its pages
pub row_in : (shape : RowShape) (pages : List (List ℕ)) (x : Row) → Contains (rows_of shape pages) x → IsIn (tables shape pages) x
row_in shape pages x c = flat_has shape pages x (in_order_has (flat_map (rows_in shape) pages) x c)

pub in_rows : (shape : RowShape) (pages : List (List ℕ)) → AreApart (tables shape pages) → (x : Row) → IsIn (tables shape pages) x → Contains (rows_of shape pages) x
in_rows shape pages apart x c =
    in_order_all (flat_map (rows_in shape) pages) (λ y z d e. one_in (tables shape pages) apart y z (flat_has shape pages y d) (flat_has shape pages z e)) x (flat_of shape pages c.0 x c.1)

pub rows_rise : (shape : RowShape) (pages : List (List ℕ)) → RowsRise (rows_of shape pages)
rows_rise shape pages = in_order_rises (flat_map (rows_in shape) pages)

-- a row of this key, or none
pub has_or : (key : List ℕ) (rows : List Row) → ((x : Row) × Contains rows x × (x.0 ≡ key)) ⊎ ((x : Row) → Contains rows x → x.0 ≡ key → ⊥)
has_or key [] = inr (λ x c is. nothing_there x c)
has_or key (row ∷ rows) = elim (three_ways (row.0) key) [
  | inl below ↦ other (below_itself (row.0) key below) (has_or key rows)
  | inr (inl same) ↦ inl (row, at_front row rows, same)
  | inr (inr above) ↦ other (λ is. below_itself key (row.0) above (sym is)) (has_or key rows)
]
  where
    other : (row.0 ≡ key → ⊥) → ((x : Row) × Contains rows x × (x.0 ≡ key)) ⊎ ((x : Row) → Contains rows x → x.0 ≡ key → ⊥)
        → ((x : Row) × Contains (row ∷ rows) x × (x.0 ≡ key)) ⊎ ((x : Row) → Contains (row ∷ rows) x → x.0 ≡ key → ⊥)
    other apart (inl found) = inl (found.0, further row rows found.0 found.1, found.2)
    other apart (inr none) = inr (λ x c is. elim (front_or row rows x c) [ inl here ↦ apart (ap (λ (r : Row). r.0) (sym here) ∙ is) | inr d ↦ none x d is ])

pub same_lookup : (key : List ℕ) (all some : List Row) → RowsRise all → RowsRise some → ((x : Row) → Contains some x → Contains all x) → ((x : Row) → Contains all x → x.0 ≡ key → Contains some x) → lookup key some ≡ lookup key all
same_lookup key all some rise risen to back = elim (has_or key some) [
  | inl found ↦ lookup_is key some risen found.0 found.1 found.2 ∙ sym (lookup_is key all rise found.0 (to found.0 found.1) found.2)
  | inr none ↦ lookup_none key some none ∙ sym (lookup_none key all (λ x c is. none x (back x c is) is))
]

-- a row of a page whose first key is above a key is above it too
pub above_split : (table : List (List Row)) (firsts : List First) (key : List ℕ) (at : ℕ) → AreApart table → IsIndex table firsts → IsSplit key firsts at → (f : First) (k : ℕ) → at ≤ k → k < length firsts → get_or firsts k f ≡ f
    → (x : Row) → Contains (page_rows table f.page) x → is_below key (x.0) ≡ true
above_split table firsts key at apart index split f k le lt is x c =
    let over : is_below key f.key ≡ true = subst (λ (g : First). is_below key g.key ≡ true) is (split.above k f le lt) in
    below_upto key f.key (x.0) over (from_first f.key (page_rows table f.page) (apart.rise f.page) (index.starts f (k, lt, is)) x c)

-- where a row stands of a split: in the page before it, in one before that and so below its first key, or behind it
pub data Side (table : List (List Row)) (firsts : List First) (at : ℕ) (p : First) (x : Row) : Type 0 where
  Here : 0 < at → Contains (page_rows table p.page) x → Side table firsts at p x
  Lower : 0 < at → is_below (x.0) p.key ≡ true → Side table firsts at p x
  Behind : (f : First) (k : ℕ) → at ≤ k → k < length firsts → get_or firsts k f ≡ f → Contains (page_rows table f.page) x → Side table firsts at p x

pub side_of : (table : List (List Row)) (firsts : List First) (at : ℕ) (p d : First) → AreApart table → IsIndex table firsts → at ≤ length firsts → (0 < at → p ≡ get_or firsts (at - 1) d) → (x : Row) → IsIn table x → Side table firsts at p x
side_of table firsts at p d apart index within is x c =
    let found = index.all c.0 x c.1 in
    let f : First = found.0 in
    let k : ℕ = found.1.0 in
    let there : Contains (page_rows table f.page) x = subst (λ (n : ℕ). Contains (page_rows table n) x) (sym found.2) c.1 in
    elim (cases_lt k at) [
      | inr le ↦ Behind f k le found.1.1 found.1.2 there
      | inl lt ↦
          let some : 0 < at = omega arith in
          let one : p ≡ get_or firsts (at - 1) f = is some ∙ get_or_default firsts (at - 1) d f (omega arith) in
          elim (cases_eq k (at - 1)) [
            | inl same ↦
                let first : p ≡ f = one ∙ ap (λ (i : ℕ). get_or firsts i f) (sym same) ∙ found.1.2 in
                Here some (subst (λ (g : First). Contains (page_rows table g.page) x) (sym first) there)
            | inr other ↦
                let below : is_below f.key p.key ≡ true = subst (λ (g : First). is_below g.key p.key ≡ true) found.1.2 (subst (λ (g : First). is_below (get_or firsts k f).key g.key ≡ true) (sym one)
                (rise_at (λ (g : First). g.key) firsts index.rise k (at - 1) f (omega arith) (omega arith))) in
                let here : Contains firsts p = subst (Contains firsts) (sym one) (Contains-get_or firsts (at - 1) f (omega arith)) in
                let front = first_row p.key (page_rows table p.page) (index.starts p here) in
                Lower some (ap (is_below (x.0)) (sym front.2) ∙ before_by_first table firsts apart index f p found.1 here below x front.0 there front.1)
          ]
    ]
