-- A row that begins the second page alone.
use Rattle.std.proofs.Common.{◌≡◌, ℕ, zero, ◌+◌, ◌<◌, ◌≤◌, List, [], ◌∷◌, ◌++◌, length, take, drop, set, Option, Some, None, inl, inr, refl, sym, ap, subst, ◌∙◌, arith}
use Rattle.std.specs.Prelude.{Contains, IfSome, IsSomeAnd, slice_get, insert, All}
use Rattle.std.specs.List.{remove}
use Rattle.std.specs.Option.{option_map}
use Rattle.std.proofs.lemmas.Bool.{cases_lt, cases_eq}
use Rattle.std.proofs.lemmas.Option.{same_Some}
use Rattle.std.proofs.lemmas.List.{take_all, drop_all, take_at, length_push}
use Rattle.std.proofs.Math.Nat.{le-div_iff_mul-le}
use Rattle.std.proofs.lemmas.List.Elements.{All-append, All-cons, All-take, All-drop, All-tail}
use Rattle.keyed_sets.specs.declared.row.RowShape.{RowShape}
use Rattle.keyed_sets.specs.declared.index.First.{First}
use Rattle.keyed_sets.specs.Changes.{placed, HasSpare}
use Rattle.keyed_sets.specs.Layout.{Row, rows_in, rows_from, count_of, end_of, is_below, row_length, PutsRows}
use Rattle.keyed_sets.specs.Map.{rows_of, with_row}
use Rattle.keyed_sets.specs.Places.{HasNoRows, first_or, second_page, IsPut, Fits, Begins, Puts}
use Rattle.keyed_sets.specs.Rule.{KeepsRule, capacity, tables, page_rows}
use Rattle.keyed_sets.specs.Goes.{IsBegun}
use Rattle.keyed_sets.specs.Standing.{StartsWith, Stands}
use Rattle.keyed_sets.specs.Index.{empty_numbers}
use Rattle.keyed_sets.specs.Taken.{AreApart}
use Rattle.keyed_sets.proofs.Keys.{below_itself}
use Rattle.keyed_sets.proofs.Members.{nothing_there, at_front, the_only}
use Rattle.keyed_sets.proofs.Tables.{page_past, page_old, page_new, first_row}
use Rattle.keyed_sets.proofs.Openings.{numbers_last}
use Rattle.keyed_sets.proofs.Sets.{IsIn, lawful}
use Rattle.keyed_sets.proofs.Placing.{placed_here, placed_other, placed_or, rows_with}
use Rattle.keyed_sets.proofs.Adding.{Added, added_table, added_within, added_apart, added_stands, nothing_at}

-- what a spare page leaves of a table
pub record Spare (before after : List (List Row)) (n : ℕ) : Type 0 where
  pub second : n ≡ second_page before
  pub same : (rows : List Row) → placed n rows after ≡ placed n rows before
  pub rows : (m : ℕ) → page_rows after m ≡ page_rows before m

pub spare_of : (before after : List (List Row)) (n : ℕ) (rest : List ℕ) → HasSpare before after → empty_numbers 0 after ≡ n ∷ rest → Spare before after n
spare_of before after n rest (inl is) numbers = record {
  second = sym (ap (first_or (length before)) (ap (empty_numbers 0) (sym is) ∙ numbers));
  same = λ rows. ap (placed n rows) is;
  rows = λ m. ap (λ (t : List (List Row)). page_rows t m) is;
}
spare_of before after n rest (inr grown) numbers =
    let long : empty_numbers 0 (before ++ [] ∷ []) ≡ (0 + length before) ∷ [] = numbers_last 0 before ∙ ap (λ (l : List ℕ). l ++ (0 + length before) ∷ []) grown.1 in
    let head : n ∷ rest ≡ (0 + length before) ∷ [] = sym numbers ∙ ap (empty_numbers 0) grown.0 ∙ long in
    let first : n ≡ 0 + length before = cc in
    let is : n ≡ length before = omega (arith, first) in
    record {
      second = is ∙ sym (ap (first_or (length before)) grown.1);
      same = λ rows. ap (placed n rows) grown.0 ∙ ap (λ (k : ℕ). placed k rows (before ++ [] ∷ [])) is
          ∙ ap (λ (l : List (List Row)). l ++ rows ∷ drop (length before + 1) (before ++ [] ∷ [])) (take_at before ([] ∷ []) (length before) refl ∙ sym (take_all (length before) before (omega arith)))
          ∙ ap (λ (l : List (List Row)). take (length before) before ++ rows ∷ l) (drop_all (length before + 1) (before ++ [] ∷ []) (omega (arith, length_push before [])) ∙ sym (drop_all (length before + 1) before (omega arith)))
          ∙ ap (λ (k : ℕ). placed k rows before) (sym is);
      rows = λ m. ap (λ (t : List (List Row)). page_rows t m) grown.0 ∙ elim (cases_lt m (length before)) [
        | inl lt ↦ page_old before [] m lt
        | inr le ↦ elim (cases_eq m (length before)) [
          | inl same ↦ page_new before [] m same ∙ sym (page_past before m le)
          | inr other ↦ page_past (before ++ [] ∷ []) m (omega (arith, length_push before [])) ∙ sym (page_past before m le)
        ]
      ];
    }

-- the first page of a set without rows
pub second_first : (table : List (List Row)) → HasNoRows table → second_page table ≡ 0
second_first [] none = refl
second_first ([] ∷ table) none = refl
second_first ((row ∷ rows) ∷ table) none = let here : row ∷ rows ≡ [] = none 0 in cc

begun_put : (most : ℕ) (row : Row) (before after : List (List Row)) → 0 < most → IsBegun most (row.0) before → after ≡ placed (second_page before) (row ∷ []) before → IsPut most row before after
begun_put most row before after some begun is = elim begun.full [
  | inl none ↦
      let first = second_first before none in
      let nothing : page_rows before 0 ≡ [] = none 0 in
      Fits 0 (inl (refl, none)) (inr (subst (λ (l : List Row). length l < most) (sym nothing) some))
      (is ∙ ap (λ (k : ℕ). placed k (row ∷ []) before) first ∙ ap (λ (l : List Row). placed 0 (with_row row l) before) (sym nothing))
  | inr full ↦ Begins full.0 full.1 full.2 begun.above is
]

-- pages that a row was put among, told or not
pub some_capacity : (shape : RowShape) → 0 < shape.key → row_length shape ≤ 2040 → 0 < capacity shape
some_capacity shape some short =
    let pos : zero < row_length shape = omega arith in
    let one : 1 ≤ capacity shape = (le-div_iff_mul-le {k = row_length shape} {x = 1} {y = 4080} pos).1 (omega arith) in
    omega (arith, one)

pub record BegunAt (shape : RowShape) (pages pages1 : List (List ℕ)) (firsts : List First) (n : ℕ) (rest : List ℕ) (page page2 : List ℕ) (row : Row) : Type 0 where
  pub rule : KeepsRule shape pages
  pub spare : HasSpare (tables shape pages) (tables shape pages1)
  pub stands : Stands shape firsts (n ∷ rest) pages1
  pub read : slice_get pages1 n ≡ Some page
  pub puts : PutsRows shape page page2 (row ∷ [])
  pub begun : IsBegun (capacity shape) (row.0) (tables shape pages)

begun_added : (shape : RowShape) (pages pages1 : List (List ℕ)) (firsts : List First) (n : ℕ) (rest : List ℕ) (page page2 : List ℕ) (row : Row) → BegunAt shape pages pages1 firsts n rest page page2 row → Added shape pages1 firsts n rest page page2 (row ∷ [])
begun_added shape pages pages1 firsts n rest page page2 row b =
    let spare = spare_of (tables shape pages) (tables shape pages1) n rest b.spare (sym b.stands.empty_pages) in
    record {
      stands = b.stands;
      read = b.read;
      puts = b.puts;
      rise = (λ y c. absurd (nothing_there y c), tt);
      clear = λ m other. inl (λ x y c d. ap (λ (r : Row). is_below (x.0) (r.0)) (the_only row y d) ∙ b.begun.above m x (subst (λ (l : List Row). Contains l x) (spare.rows m) c));
    }

begun_rows : (shape : RowShape) (pages pages1 : List (List ℕ)) (firsts : List First) (n : ℕ) (rest : List ℕ) (page page2 : List ℕ) (row : Row) → BegunAt shape pages pages1 firsts n rest page page2 row
    → rows_of shape (set pages1 n page2) ≡ with_row row (rows_of shape pages)
begun_rows shape pages pages1 firsts n rest page page2 row b =
    let a = begun_added shape pages pages1 firsts n rest page page2 row b in
    let spare = spare_of (tables shape pages) (tables shape pages1) n rest b.spare (sym b.stands.empty_pages) in
    let grown = added_table shape pages1 firsts n rest page page2 (row ∷ []) a in
    let le = added_within shape pages1 firsts n rest page page2 (row ∷ []) a in
    let are : AreApart (tables shape (set pages1 n page2)) = subst AreApart (sym grown) (added_apart shape pages1 firsts n rest page page2 (row ∷ []) a) in
    let there : IsIn (placed n (row ∷ []) (tables shape pages1)) row = (n, subst (λ (l : List Row). Contains l row) (sym (placed_here n (row ∷ []) (tables shape pages1) le)) (at_front row [])) in
    rows_with shape pages (set pages1 n page2) row (lawful shape pages b.rule) are (subst (λ (t : List (List Row)). IsIn t row) (sym grown) there)
    (λ x c. elim (placed_or n (row ∷ []) (tables shape pages1) le c.0 x (subst (λ (t : List (List Row)). Contains (page_rows t c.0) x) grown c.1)) [
      | inl here ↦ inl (the_only row x here.1)
      | inr old ↦
          let was : Contains (page_rows (tables shape pages) c.0) x = subst (λ (l : List Row). Contains l x) (spare.rows c.0) old.1 in
          inr ((c.0, was), below_itself (x.0) (row.0) (b.begun.above c.0 x was))
    ])
    (λ x c other. subst (λ (t : List (List Row)). IsIn t x) (sym grown) (elim (cases_eq c.0 n) [
      | inl here ↦ absurd (nothing_there x (subst (λ (l : List Row). Contains l x) (sym (spare.rows c.0) ∙ ap (page_rows (tables shape pages1)) here ∙ nothing_at shape pages1 firsts n rest b.stands) c.1))
      | inr apart ↦ (c.0, subst (λ (l : List Row). Contains l x) (sym (placed_other n (row ∷ []) (tables shape pages1) c.0 le apart ∙ spare.rows c.0)) c.1)
    ]))

pub begun_puts : (shape : RowShape) (pages pages1 : List (List ℕ)) (told2 : Option (List (List ℕ))) (firsts : List First) (n : ℕ) (rest : List ℕ) (page page2 : List ℕ) (row : Row) → 0 < capacity shape → BegunAt shape pages pages1 firsts n rest page page2 row
    → told2 ≡ Some (set pages1 n page2) → Puts shape row (Some pages) told2
begun_puts shape pages pages1 told2 firsts n rest page page2 row some b staged =
    let spare = spare_of (tables shape pages) (tables shape pages1) n rest b.spare (sym b.stands.empty_pages) in
    let grown = added_table shape pages1 firsts n rest page page2 (row ∷ []) (begun_added shape pages pages1 firsts n rest page page2 row b) in
    record {
      pages = subst (λ o. IsSomeAnd o (λ after. IsPut (capacity shape) row (tables shape pages) (tables shape after))) (sym staged)
          (begun_put (capacity shape) row (tables shape pages) (tables shape (set pages1 n page2)) some b.begun (grown ∙ spare.same (row ∷ []) ∙ ap (λ (k : ℕ). placed k (row ∷ []) (tables shape pages)) spare.second));
      rows = subst (λ o. IsSomeAnd o (λ after. rows_of shape after ≡ with_row row (rows_of shape pages))) (sym staged) (begun_rows shape pages pages1 firsts n rest page page2 row b);
    }

pub begun_stands : (shape : RowShape) (pages pages1 : List (List ℕ)) (firsts : List First) (n : ℕ) (rest : List ℕ) (page page2 : List ℕ) (row : Row) (key : List ℕ) → BegunAt shape pages pages1 firsts n rest page page2 row → StartsWith key (row ∷ [])
    → Stands shape (insert firsts (length firsts) (record { key = key; page = n })) rest (set pages1 n page2)
begun_stands shape pages pages1 firsts n rest page page2 row key b starts =
    let spare = spare_of (tables shape pages) (tables shape pages1) n rest b.spare (sym b.stands.empty_pages) in
    added_stands shape pages1 firsts n rest page page2 (row ∷ []) (length firsts) key (begun_added shape pages pages1 firsts n rest page page2 row b) starts
    (λ f c.
    let there : Contains firsts f = subst (λ (l : List First). Contains l f) (take_all (length firsts) firsts (omega arith)) c in
    let front = first_row f.key (page_rows (tables shape pages1) f.page) (b.stands.index.starts f there) in
    ap (λ (k : List ℕ). is_below k key) (sym front.2) ∙ ap (is_below (front.0.0)) (sym starts) ∙ b.begun.above f.page front.0 (subst (λ (l : List Row). Contains l front.0) (spare.rows f.page) front.1))
    (λ f c. absurd (nothing_there f (subst (λ (l : List First). Contains l f) (drop_all (length firsts) firsts (omega arith)) c)))

first_room : (shape : RowShape) (count : ℕ) → count ≡ 0 → row_length shape ≤ 2040 → end_of shape (count + 1) ≤ 4096
first_room shape count none short = subst (λ (n : ℕ). end_of shape (n + 1) ≤ 4096) (sym none) (omega arith)

pub room_first : (shape : RowShape) (count : ℕ) → count ≡ 0 → row_length shape ≤ 2040 → end_of shape (count + 1) ≤ 4096
room_first shape count none short = first_room shape count none short

-- the first of the empty pages, read and written, told or not
pub record BegunTold (shape : RowShape) (told told1 told2 : Option (List (List ℕ))) (firsts0 firsts : List First) (empty0 empty1 : List ℕ) (page page2 : List ℕ) (row : Row) : Type 0 where
  pub some : 0 < capacity shape
  pub was : IfSome told (Stands shape firsts0 empty0)
  pub spare : IfSome told (λ pages. IsSomeAnd told1 (λ after. HasSpare (tables shape pages) (tables shape after)))
  pub untold : told ≡ None → told1 ≡ None
  pub stands : IfSome told1 (Stands shape firsts empty1)
  pub many : 0 < length empty1
  pub read : (n : ℕ) → slice_get empty1 0 ≡ Some n → IfSome told1 (λ pages. slice_get pages n ≡ Some page)
  pub none : count_of page ≡ 0
  pub puts : PutsRows shape page page2 (insert (rows_in shape page) 0 row)
  pub begun : IfSome told (λ pages. IsBegun (capacity shape) (row.0) (tables shape pages))
  pub staged : (n : ℕ) → slice_get empty1 0 ≡ Some n → told2 ≡ option_map (λ pages. set pages n page2) told1

alone : (shape : RowShape) (page page2 : List ℕ) (row : Row) → count_of page ≡ 0 → PutsRows shape page page2 (insert (rows_in shape page) 0 row) → PutsRows shape page page2 (row ∷ [])
alone shape page page2 row none puts =
    let nothing : rows_in shape page ≡ [] = ap (λ (k : ℕ). rows_from shape k (drop 16 page)) none in
    subst (λ (l : List Row). PutsRows shape page page2 (insert l 0 row)) nothing puts

begun_at : (shape : RowShape) (pages pages1 : List (List ℕ)) (told2 : Option (List (List ℕ))) (firsts0 firsts : List First) (empty0 : List ℕ) (n : ℕ) (rest : List ℕ) (page page2 : List ℕ) (row : Row)
    → BegunTold shape (Some pages) (Some pages1) told2 firsts0 firsts empty0 (n ∷ rest) page page2 row → BegunAt shape pages pages1 firsts n rest page page2 row
begun_at shape pages pages1 told2 firsts0 firsts empty0 n rest page page2 row t = record {
  rule = t.was.rule;
  spare = t.spare;
  stands = t.stands;
  read = t.read n refl;
  puts = alone shape page page2 row t.none t.puts;
  begun = t.begun;
}

pub begun_told : (shape : RowShape) (told told1 told2 : Option (List (List ℕ))) (firsts0 firsts : List First) (empty0 empty1 : List ℕ) (page page2 : List ℕ) (row : Row) → BegunTold shape told told1 told2 firsts0 firsts empty0 empty1 page page2 row → Puts shape row told told2
begun_told shape None told1 told2 firsts0 firsts empty0 empty1 page page2 row t = record { pages = tt; rows = tt }
begun_told shape (Some pages) None told2 firsts0 firsts empty0 empty1 page page2 row t = absurd t.spare
begun_told shape (Some pages) (Some pages1) told2 firsts0 firsts empty0 [] page page2 row t = absurd (omega (arith, t.many))
begun_told shape (Some pages) (Some pages1) told2 firsts0 firsts empty0 (n ∷ rest) page page2 row t =
    begun_puts shape pages pages1 told2 firsts n rest page page2 row t.some (begun_at shape pages pages1 told2 firsts0 firsts empty0 n rest page page2 row t) (t.staged n refl)

pub begun_index : (shape : RowShape) (told told1 told2 : Option (List (List ℕ))) (firsts0 firsts : List First) (empty0 empty1 : List ℕ) (page page2 : List ℕ) (row : Row) (key : List ℕ) (n : ℕ) → BegunTold shape told told1 told2 firsts0 firsts empty0 empty1 page page2 row
    → slice_get empty1 0 ≡ Some n → StartsWith key (rows_in shape page2) → IfSome told2 (Stands shape (insert firsts (length firsts) (record { key = key; page = n })) (remove empty1 0))
begun_index shape None told1 told2 firsts0 firsts empty0 empty1 page page2 row key n t is starts =
    subst (λ o. IfSome o (Stands shape (insert firsts (length firsts) (record { key = key; page = n })) (remove empty1 0))) (sym (t.staged n is ∙ ap (option_map (λ (pages : List (List ℕ)). set pages n page2)) (t.untold refl))) tt
begun_index shape (Some pages) None told2 firsts0 firsts empty0 empty1 page page2 row key n t is starts = absurd t.spare
begun_index shape (Some pages) (Some pages1) told2 firsts0 firsts empty0 [] page page2 row key n t is starts = absurd (omega (arith, t.many))
begun_index shape (Some pages) (Some pages1) told2 firsts0 firsts empty0 (m ∷ rest) page page2 row key n t is starts =
    let b = begun_at shape pages pages1 told2 firsts0 firsts empty0 m rest page page2 row t in
    let same : m ≡ n = same_Some _ _ is in
    subst (λ o. IfSome o (Stands shape (insert firsts (length firsts) (record { key = key; page = n })) rest)) (sym (t.staged m refl))
    (subst (λ (k : ℕ). Stands shape (insert firsts (length firsts) (record { key = key; page = k })) rest (set pages1 m page2)) same (begun_stands shape pages pages1 firsts m rest page page2 row key b (subst (StartsWith key) b.puts.rows starts)))

pub put_within : (firsts : List First) (at : ℕ) (new : First) (count : ℕ) → new.page < count → All (λ (f : First). f.page < count) firsts → All (λ (f : First). f.page < count) (insert firsts at new)
put_within firsts at new count lt all =
    All-append (λ (f : First). f.page < count) (take at firsts) (new ∷ drop at firsts) (All-take (λ (f : First). f.page < count) at firsts all) (All-cons (λ (f : First). f.page < count) new (drop at firsts) lt (All-drop (λ (f : First). f.page < count) at firsts all))

pub fewer_within : (numbers : List ℕ) (count : ℕ) → All (λ k. k < count) numbers → All (λ k. k < count) (remove numbers 0)
fewer_within [] count all = all
fewer_within (n ∷ rest) count all = All-tail (λ k. k < count) n rest all
