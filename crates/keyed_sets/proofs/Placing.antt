-- A page of a table that has other rows now: the pages stay apart, the index stays right, and the set has other rows.
use Rattle.std.proofs.Common.{◌≡◌, ◌⊎◌, ℕ, suc, ◌+◌, ◌-◌, ◌<◌, ◌≤◌, true, List, [], ◌∷◌, ◌++◌, length, get_or, take, drop, set, inl, inr, refl, sym, ap, subst, ◌∙◌, arith}
use Rattle.std.specs.Prelude.{Contains, All}
use Rattle.std.specs.List.{remove}
use Rattle.std.proofs.lemmas.Bool.{cases_eq, cases_order}
use Rattle.std.proofs.lemmas.List.{get_or_append_left, get_or-append_right, get_or-take, get_or-drop, length-take-le, set_split, map-set, length-map, take-append-drop, drop_more}
use Rattle.std.proofs.lemmas.List.Elements.{Contains-append_left, Contains-append_right, Contains-append_cases}
use Rattle.keyed_sets.specs.declared.row.RowShape.{RowShape}
use Rattle.keyed_sets.specs.declared.index.First.{First}
use Rattle.keyed_sets.specs.Changes.{placed}
use Rattle.keyed_sets.specs.Layout.{Row, rows_in, is_below, PutsRows}
use Rattle.keyed_sets.specs.Map.{RowsRise, KeysRise, rows_of, with_row, without_row}
use Rattle.keyed_sets.specs.Rule.{IsRowPage, KeepsRule, Rise, tables, page_rows}
use Rattle.keyed_sets.specs.Standing.{Apart, StartsWith, IsIndex}
use Rattle.keyed_sets.specs.Taken.{AreApart}
use Rattle.keyed_sets.proofs.Aparts.{apart_to}
use Rattle.keyed_sets.proofs.Keys.{below_itself}
use Rattle.keyed_sets.proofs.Maps.{same_rows, with_row_has, with_row_new, with_row_old, with_row_rises, without_row_has, without_row_old, without_row_rises}
use Rattle.keyed_sets.proofs.Members.{nothing_there, at_front, further, front_or, rise-append, rise-left, rise-right, rise-between}
use Rattle.keyed_sets.proofs.Tables.{apart_turned}
use Rattle.keyed_sets.proofs.Sets.{IsIn, row_in, in_rows, rows_rise}

pub placed_here : (n : ℕ) (rows : List Row) (table : List (List Row)) → n ≤ length table → page_rows (placed n rows table) n ≡ rows
placed_here n rows table le =
    let long : length (take n table) ≡ n = length-take-le n table le in
    let none : n - n ≡ 0 = omega arith in
    get_or-append_right (take n table) (rows ∷ drop (n + 1) table) n n [] long (omega arith) ∙ ap (λ (k : ℕ). get_or (rows ∷ drop (n + 1) table) k []) none

pub placed_other : (n : ℕ) (rows : List Row) (table : List (List Row)) (m : ℕ) → n ≤ length table → (m ≡ n → ⊥) → page_rows (placed n rows table) m ≡ page_rows table m
placed_other n rows table m le other =
    let long : length (take n table) ≡ n = length-take-le n table le in
    elim (cases_order m n) [
      | inl same ↦ absurd (other same)
      | inr (inl lt) ↦ get_or_append_left (take n table) (rows ∷ drop (n + 1) table) [] m (omega (arith, long)) ∙ get_or-take n table m [] lt
      | inr (inr gt) ↦
          let k : ℕ = m - (n + 1) in
          let step : m - n ≡ suc k = omega arith in
          let sum : (n + 1) + k ≡ m = omega arith in
          get_or-append_right (take n table) (rows ∷ drop (n + 1) table) n m [] long (omega arith) ∙ ap (λ (i : ℕ). get_or (rows ∷ drop (n + 1) table) i []) step
          ∙ get_or-drop (n + 1) table k [] ∙ ap (λ (i : ℕ). get_or table i []) sum
    ]

-- what is in a page of the table now
pub placed_or : (n : ℕ) (rows : List Row) (table : List (List Row)) → n ≤ length table → (m : ℕ) (x : Row) → Contains (page_rows (placed n rows table) m) x → ((m ≡ n) × Contains rows x) ⊎ ((m ≡ n → ⊥) × Contains (page_rows table m) x)
placed_or n rows table le m x c = elim (cases_eq m n) [
  | inl same ↦ inl (same, subst (λ (l : List Row). Contains l x) (ap (page_rows (placed n rows table)) same ∙ placed_here n rows table le) c)
  | inr other ↦ inr (other, subst (λ (l : List Row). Contains l x) (placed_other n rows table m le other) c)
]

pub apart_placed : (n : ℕ) (rows : List Row) (table : List (List Row)) → n ≤ length table → AreApart table → RowsRise rows → ((m : ℕ) → (m ≡ n → ⊥) → Apart (page_rows table m) rows) → AreApart (placed n rows table)
apart_placed n rows table le apart rise clear = record {
  rise = λ m. elim (cases_eq m n) [
    | inl same ↦ subst RowsRise (sym (ap (page_rows (placed n rows table)) same ∙ placed_here n rows table le)) rise
    | inr other ↦ subst RowsRise (sym (placed_other n rows table m le other)) (apart.rise m)
  ];
  apart = λ a b other. elim (cases_eq a n) [
    | inl first ↦
        let apart_b : b ≡ n → ⊥ = λ is. other (first ∙ sym is) in
        subst (λ l. Apart l (page_rows (placed n rows table) b)) (sym (ap (page_rows (placed n rows table)) first ∙ placed_here n rows table le))
        (subst (Apart rows) (sym (placed_other n rows table b le apart_b)) (apart_turned (page_rows table b) rows (clear b apart_b)))
    | inr not_a ↦ subst (λ l. Apart l (page_rows (placed n rows table) b)) (sym (placed_other n rows table a le not_a)) (elim (cases_eq b n) [
      | inl second ↦ subst (Apart (page_rows table a)) (sym (ap (page_rows (placed n rows table)) second ∙ placed_here n rows table le)) (clear a not_a)
      | inr not_b ↦ subst (Apart (page_rows table a)) (sym (placed_other n rows table b le not_b)) (apart.apart a b other)
    ])
  ];
}

-- fewer rows are apart from what the rows were apart from
pub apart_fewer : (a rows fewer : List Row) → ((x : Row) → Contains fewer x → Contains rows x) → Apart a rows → Apart a fewer
apart_fewer a rows fewer some (inl below) = inl (λ x y c d. below x y c (some y d))
apart_fewer a rows fewer some (inr above) = inr (λ x y c d. above x y (some x c) d)

-- the index of the table now, from an index that differs at one page
pub index_placed : (n : ℕ) (rows : List Row) (table : List (List Row)) (firsts firsts2 : List First) → n ≤ length table → IsIndex table firsts → KeysRise (λ (f : First). f.key) firsts2
    → ((f : First) → Contains firsts2 f → ((f.page ≡ n) × StartsWith f.key rows) ⊎ ((f.page ≡ n → ⊥) × Contains firsts f))
    → ((f : First) → Contains firsts f → (f.page ≡ n → ⊥) → Contains firsts2 f) → ((x : Row) → Contains rows x → (f : First) × Contains firsts2 f × (f.page ≡ n)) → IsIndex (placed n rows table) firsts2
index_placed n rows table firsts firsts2 le index rise each kept own = record {
  starts = λ f c. elim (each f c) [
    | inl new ↦ subst (StartsWith f.key) (sym (ap (page_rows (placed n rows table)) new.0 ∙ placed_here n rows table le)) new.1
    | inr old ↦ subst (StartsWith f.key) (sym (placed_other n rows table f.page le old.0)) (index.starts f old.1)
  ];
  all = λ m x c. elim (placed_or n rows table le m x c) [
    | inl here ↦ let found = own x here.1 in (found.0, found.1, found.2 ∙ sym here.0)
    | inr there ↦
        let found = index.all m x there.1 in
        (found.0, kept found.0 found.1 (λ is. there.0 (sym found.2 ∙ is)), found.2)
  ];
  rise = rise;
}

-- in an index each page stands once
pub other_page : (table : List (List Row)) (firsts : List First) → IsIndex table firsts → (f g : First) → Contains firsts f → Contains firsts g → is_below f.key g.key ≡ true → f.page ≡ g.page → ⊥
other_page table firsts index f g c d below same =
    let starts = index.starts f c in
    let begins : StartsWith g.key (page_rows table f.page) = subst (λ (n : ℕ). StartsWith g.key (page_rows table n)) (sym same) (index.starts g d) in
    same_start (page_rows table f.page) starts begins
  where
    same_start : (rows : List Row) → StartsWith f.key rows → StartsWith g.key rows → ⊥
    same_start [] a b = a
    same_start (row ∷ rows) a b = below_itself f.key g.key below (sym a ∙ b)

-- a table's pages are those of a set, written to one page
pub row_page_put : (shape : RowShape) (old new : List ℕ) (rows : List Row) → IsRowPage shape old → PutsRows shape old new rows → Rise rows → IsRowPage shape new
row_page_put shape old new rows was put rise = record {
  kind = sym (get_or-take 8 new 0 0 (omega arith)) ∙ ap (λ (l : List ℕ). get_or l 0 0) put.head.set ∙ get_or-take 8 old 0 0 (omega arith) ∙ was.kind;
  place = put.place;
  rising = subst Rise (sym put.rows) rise;
  zeros = put.zeros was.zeros;
}

pub rule_from : (shape : RowShape) (pages : List (List ℕ)) → All (IsRowPage shape) pages → AreApart (tables shape pages) → KeepsRule shape pages
rule_from shape pages each apart = record { each = each; apart = λ m n lt within. apart_to (page_rows (tables shape pages) m) (page_rows (tables shape pages) n) (apart.apart m n (λ is. absurd (omega (arith, is, lt)))) }

-- one page written
pub set_placed : (shape : RowShape) (pages : List (List ℕ)) (n : ℕ) (page : List ℕ) (rows : List Row) → n < length pages → rows_in shape page ≡ rows → tables shape (set pages n page) ≡ placed n rows (tables shape pages)
set_placed shape pages n page rows lt is =
    let one : suc n ≡ n + 1 = omega arith in
    map-set (rows_in shape) pages n page ∙ set_split (tables shape pages) n (rows_in shape page) (omega (arith, lt, length-map pages (rows_in shape)))
    ∙ ap (λ (r : List Row). take n (tables shape pages) ++ r ∷ drop (suc n) (tables shape pages)) is ∙ ap (λ (k : ℕ). take n (tables shape pages) ++ rows ∷ drop k (tables shape pages)) one

-- the rows of a set that has one row more, or another of its key
pub rows_with : (shape : RowShape) (before after : List (List ℕ)) (row : Row) → AreApart (tables shape before) → AreApart (tables shape after) → IsIn (tables shape after) row
    → ((x : Row) → IsIn (tables shape after) x → (x ≡ row) ⊎ (IsIn (tables shape before) x × (x.0 ≡ row.0 → ⊥))) → ((x : Row) → IsIn (tables shape before) x → (x.0 ≡ row.0 → ⊥) → IsIn (tables shape after) x)
    → rows_of shape after ≡ with_row row (rows_of shape before)
rows_with shape before after row was are there from kept =
    same_rows (rows_of shape after) (with_row row (rows_of shape before)) (rows_rise shape after) (with_row_rises row (rows_of shape before) (rows_rise shape before))
    (λ x c. elim (from x (row_in shape after x c)) [
      | inl is ↦ subst (Contains (with_row row (rows_of shape before))) (sym is) (with_row_new row (rows_of shape before))
      | inr other ↦ with_row_old row (rows_of shape before) x (in_rows shape before was x other.0) other.1
    ])
    (λ x c. in_rows shape after are x (elim (with_row_has row (rows_of shape before) (rows_rise shape before) x c) [
      | inl is ↦ subst (IsIn (tables shape after)) (sym is) there
      | inr other ↦ kept x (row_in shape before x other.0) other.1
    ]))

pub rows_without : (shape : RowShape) (before after : List (List ℕ)) (key : List ℕ) → AreApart (tables shape before) → AreApart (tables shape after)
    → ((x : Row) → IsIn (tables shape after) x → IsIn (tables shape before) x × (x.0 ≡ key → ⊥)) → ((x : Row) → IsIn (tables shape before) x → (x.0 ≡ key → ⊥) → IsIn (tables shape after) x)
    → rows_of shape after ≡ without_row key (rows_of shape before)
rows_without shape before after key was are from kept =
    same_rows (rows_of shape after) (without_row key (rows_of shape before)) (rows_rise shape after) (without_row_rises key (rows_of shape before) (rows_rise shape before))
    (λ x c. let old = from x (row_in shape after x c) in without_row_old key (rows_of shape before) x (in_rows shape before was x old.0) old.1)
    (λ x c. let old = without_row_has key (rows_of shape before) (rows_rise shape before) x c in in_rows shape after are x (kept x (row_in shape before x old.0) old.1))

-- the index with other rows in the page at a place
abbrev first_key : First → List ℕ
first_key f = f.key

parts_at : (firsts : List First) (at : ℕ) (p : First) → at < length firsts → get_or firsts at p ≡ p → firsts ≡ take at firsts ++ p ∷ drop (at + 1) firsts
parts_at firsts at p lt is = sym (take-append-drop at firsts) ∙ ap (λ (l : List First). take at firsts ++ l) (drop_more firsts at p lt) ∙ ap (λ (f : First). take at firsts ++ f ∷ drop (at + 1) firsts) is

pub in_front : (firsts : List First) (at : ℕ) (p : First) → at < length firsts → get_or firsts at p ≡ p → (f : First) → Contains (take at firsts) f → Contains firsts f
in_front firsts at p lt is f c = subst (λ (l : List First). Contains l f) (sym (parts_at firsts at p lt is)) (Contains-append_left (take at firsts) (p ∷ drop (at + 1) firsts) f c)

pub in_back : (firsts : List First) (at : ℕ) (p : First) → at < length firsts → get_or firsts at p ≡ p → (f : First) → Contains (drop (at + 1) firsts) f → Contains firsts f
in_back firsts at p lt is f c =
    subst (λ (l : List First). Contains l f) (sym (parts_at firsts at p lt is)) (Contains-append_right (take at firsts) (p ∷ drop (at + 1) firsts) f (further p (drop (at + 1) firsts) f c))

sides : (firsts : List First) (at : ℕ) (p : First) → at < length firsts → get_or firsts at p ≡ p → (f : First) → Contains firsts f → Contains (take at firsts) f ⊎ ((f ≡ p) ⊎ Contains (drop (at + 1) firsts) f)
sides firsts at p lt is f c = elim (Contains-append_cases (take at firsts) (p ∷ drop (at + 1) firsts) f (subst (λ (l : List First). Contains l f) (parts_at firsts at p lt is) c)) [
  | inl front ↦ inl front
  | inr back ↦ inr (front_or p (drop (at + 1) firsts) f back)
]

pub front_below : (firsts : List First) (at : ℕ) (p : First) → KeysRise first_key firsts → at < length firsts → get_or firsts at p ≡ p → (f : First) → Contains (take at firsts) f → is_below f.key p.key ≡ true
front_below firsts at p rise lt is f c =
    rise-between first_key (take at firsts) (p ∷ drop (at + 1) firsts) (subst (KeysRise first_key) (parts_at firsts at p lt is) rise) f p c (at_front p (drop (at + 1) firsts))

pub back_above : (firsts : List First) (at : ℕ) (p : First) → KeysRise first_key firsts → at < length firsts → get_or firsts at p ≡ p → (f : First) → Contains (drop (at + 1) firsts) f → is_below p.key f.key ≡ true
back_above firsts at p rise lt is f c =
    (rise-right first_key (take at firsts) (p ∷ drop (at + 1) firsts) (subst (KeysRise first_key) (parts_at firsts at p lt is) rise)).0 f c

pub front_back : (firsts : List First) (at : ℕ) (p : First) → KeysRise first_key firsts → at < length firsts → get_or firsts at p ≡ p → (f g : First) → Contains (take at firsts) f → Contains (drop (at + 1) firsts) g → is_below f.key g.key ≡ true
front_back firsts at p rise lt is f g c d =
    rise-between first_key (take at firsts) (p ∷ drop (at + 1) firsts) (subst (KeysRise first_key) (parts_at firsts at p lt is) rise) f g c (further p (drop (at + 1) firsts) g d)

set_parts : (firsts : List First) (at : ℕ) (new : First) → at < length firsts → set firsts at new ≡ take at firsts ++ new ∷ drop (at + 1) firsts
set_parts firsts at new lt = let one : suc at ≡ at + 1 = omega arith in set_split firsts at new lt ∙ ap (λ (k : ℕ). take at firsts ++ new ∷ drop k firsts) one

pub index_set : (rows : List Row) (table : List (List Row)) (firsts : List First) (at : ℕ) (p : First) (key : List ℕ) → p.page < length table → IsIndex table firsts → at < length firsts → get_or firsts at p ≡ p → StartsWith key rows
    → ((f : First) → Contains (take at firsts) f → is_below f.key key ≡ true) → ((f : First) → Contains (drop (at + 1) firsts) f → is_below key f.key ≡ true)
    → IsIndex (placed p.page rows table) (set firsts at (record { key = key; page = p.page }))
index_set rows table firsts at p key lt index within is starts low high =
    let new : First = record { key = key; page = p.page } in
    let there : Contains firsts p = (at, within, is) in
    let parts : set firsts at new ≡ take at firsts ++ new ∷ drop (at + 1) firsts = set_parts firsts at new within in
    let rise = subst (KeysRise first_key) (parts_at firsts at p within is) index.rise in
    subst (IsIndex (placed p.page rows table)) (sym parts) (index_placed p.page rows table firsts (take at firsts ++ new ∷ drop (at + 1) firsts) (omega arith) index
    (rise-append first_key (take at firsts) (new ∷ drop (at + 1) firsts) (rise-left first_key (take at firsts) (p ∷ drop (at + 1) firsts) rise)
    (high, (rise-right first_key (take at firsts) (p ∷ drop (at + 1) firsts) rise).1)
    (λ f g c d. elim (front_or new (drop (at + 1) firsts) g d) [
      | inl same ↦ ap (λ (h : First). is_below f.key h.key) same ∙ low f c
      | inr e ↦ front_back firsts at p index.rise within is f g c e
    ]))
    (λ f c. elim (Contains-append_cases (take at firsts) (new ∷ drop (at + 1) firsts) f c) [
      | inl front ↦ inr (other_page table firsts index f p (in_front firsts at p within is f front) there (front_below firsts at p index.rise within is f front), in_front firsts at p within is f front)
      | inr back ↦ elim (front_or new (drop (at + 1) firsts) f back) [
        | inl same ↦ inl (ap (λ (h : First). h.page) same, subst (λ (h : First). StartsWith h.key rows) (sym same) starts)
        | inr d ↦ inr (λ same. other_page table firsts index p f there (in_back firsts at p within is f d) (back_above firsts at p index.rise within is f d) (sym same), in_back firsts at p within is f d)
      ]
    ])
    (λ f c other. elim (sides firsts at p within is f c) [
      | inl front ↦ Contains-append_left (take at firsts) (new ∷ drop (at + 1) firsts) f front
      | inr (inl same) ↦ absurd (other (ap (λ (h : First). h.page) same))
      | inr (inr back) ↦ Contains-append_right (take at firsts) (new ∷ drop (at + 1) firsts) f (further new (drop (at + 1) firsts) f back)
    ])
    (λ x c. (new, Contains-append_right (take at firsts) (new ∷ drop (at + 1) firsts) new (at_front new (drop (at + 1) firsts)), refl)))

pub index_removed : (table : List (List Row)) (firsts : List First) (at : ℕ) (p : First) → p.page < length table → IsIndex table firsts → at < length firsts → get_or firsts at p ≡ p → IsIndex (placed p.page [] table) (remove firsts at)
index_removed table firsts at p lt index within is =
    let there : Contains firsts p = (at, within, is) in
    let one : at + 1 ≡ suc at = omega arith in
    let rise = subst (KeysRise first_key) (parts_at firsts at p within is) index.rise in
    subst (λ (k : ℕ). IsIndex (placed p.page [] table) (take at firsts ++ drop k firsts)) one (index_placed p.page [] table firsts (take at firsts ++ drop (at + 1) firsts) (omega arith) index
    (rise-append first_key (take at firsts) (drop (at + 1) firsts) (rise-left first_key (take at firsts) (p ∷ drop (at + 1) firsts) rise)
    (rise-right first_key (take at firsts) (p ∷ drop (at + 1) firsts) rise).1 (λ f g c d. front_back firsts at p index.rise within is f g c d))
    (λ f c. elim (Contains-append_cases (take at firsts) (drop (at + 1) firsts) f c) [
      | inl front ↦ inr (other_page table firsts index f p (in_front firsts at p within is f front) there (front_below firsts at p index.rise within is f front), in_front firsts at p within is f front)
      | inr d ↦ inr (λ same. other_page table firsts index p f there (in_back firsts at p within is f d) (back_above firsts at p index.rise within is f d) (sym same), in_back firsts at p within is f d)
    ])
    (λ f c other. elim (sides firsts at p within is f c) [
      | inl front ↦ Contains-append_left (take at firsts) (drop (at + 1) firsts) f front
      | inr (inl same) ↦ absurd (other (ap (λ (h : First). h.page) same))
      | inr (inr back) ↦ Contains-append_right (take at firsts) (drop (at + 1) firsts) f back
    ])
    (λ x c. absurd (nothing_there x c)))
