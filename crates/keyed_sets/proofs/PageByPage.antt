-- A set's pages are taken in one by one, up to the first that breaks the rule.
use Rattle.std.proofs.Common.{◌≡◌, ℕ, ◌+◌, ◌<◌, List, [], ◌∷◌, ◌++◌, length, get_or, take, drop, Option, Some, eqb, ltb, sym, ap, subst, ◌∙◌, arith}
use Rattle.std.specs.Prelude.{IfSome, slice_get, slice_index, ⊤}
use Rattle.std.proofs.lemmas.Bool.{eq-eqb, le-ltb}
use Rattle.std.proofs.lemmas.Option.{MatchOption-at_some, slice_get_within, get_or_from_slice_get}
use Rattle.std.proofs.lemmas.List.{take_more, map-append, length-map, length-take-le, get_or-take}
use Rattle.std.proofs.lemmas.List.Elements.{All-push}
use Rattle.keyed_sets.specs.declared.row.RowShape.{RowShape}
use Rattle.keyed_sets.specs.declared.index.First.{First}
use Rattle.keyed_sets.specs.Layout.{Row, rows_in, rows_from, end_of}
use Rattle.keyed_sets.specs.Rule.{IsRowPage, KeepsRule, BreaksAt, tables, page_rows, placed_rows, rising_count, break_place}
use Rattle.keyed_sets.specs.Standing.{Apart}
use Rattle.keyed_sets.specs.Taken.{AreApart, AreTaken, TakesIn}
use Rattle.keyed_sets.proofs.Aparts.{apart_from}
use Rattle.keyed_sets.proofs.Placing.{rule_from}
use Rattle.keyed_sets.proofs.Breaks.{all_placed, second_test}
use Rattle.keyed_sets.proofs.Tables.{page_old, page_new}
use Rattle.keyed_sets.proofs.Told.{told_both}

-- one page more
pub one_more : (pages : List (List ℕ)) (n : ℕ) (page : List ℕ) → slice_get pages n ≡ Some page → take (n + 1) pages ≡ take n pages ++ page ∷ []
one_more pages n page there = take_more pages n page (slice_get_within pages n page there) ∙ ap (λ (p : List ℕ). take n pages ++ p ∷ []) (get_or_from_slice_get pages n page page there)

tables_more : (shape : RowShape) (pages : List (List ℕ)) (page : List ℕ) → tables shape (pages ++ page ∷ []) ≡ tables shape pages ++ rows_in shape page ∷ []
tables_more shape pages page = map-append (rows_in shape) pages (page ∷ [])

pub rule_more : (shape : RowShape) (pages : List (List ℕ)) (page : List ℕ) → KeepsRule shape pages → IsRowPage shape page → AreApart (tables shape pages ++ rows_in shape page ∷ []) → KeepsRule shape (pages ++ page ∷ [])
rule_more shape pages page rule lawful apart =
    rule_from shape (pages ++ page ∷ []) (All-push (IsRowPage shape) pages page rule.each lawful) (subst AreApart (sym (tables_more shape pages page)) apart)

pub page_taken : (shape : RowShape) (told : Option (List (List ℕ))) (n : ℕ) (page : List ℕ) (firsts firsts2 : List First) (lasts lasts2 : List (List ℕ)) (empty empty2 : List ℕ) → IfSome told (λ pages. slice_get pages n ≡ Some page) → IsRowPage shape page
    → ((table : List (List Row)) → AreTaken table firsts lasts empty → n ≡ length table → AreTaken (table ++ rows_in shape page ∷ []) firsts2 lasts2 empty2)
    → IfSome told (λ pages. TakesIn shape (take n pages) firsts lasts empty → TakesIn shape (take (n + 1) pages) firsts2 lasts2 empty2)
page_taken shape told n page firsts firsts2 lasts lasts2 empty empty2 read lawful takes =
    told_both told (λ pages. slice_get pages n ≡ Some page) (λ pages. TakesIn shape (take n pages) firsts lasts empty → TakesIn shape (take (n + 1) pages) firsts2 lasts2 empty2) read (λ pages is there before.
    let counted : n ≡ length (tables shape (take n pages)) = sym (length-map (take n pages) (rows_in shape) ∙ length-take-le n pages (omega (arith, slice_get_within pages n page there))) in
    let more = takes (tables shape (take n pages)) before.taken counted in
    subst (λ (l : List (List ℕ)). TakesIn shape l firsts2 lasts2 empty2) (sym (one_more pages n page there)) (record {
      rule = rule_more shape (take n pages) page before.rule lawful more.lawful;
      taken = subst (λ (t : List (List Row)). AreTaken t firsts2 lasts2 empty2) (sym (tables_more shape (take n pages) page)) more;
    }))

page_at : (pages : List (List ℕ)) (n : ℕ) (page : List ℕ) → slice_get pages n ≡ Some page → page ≡ get_or pages n []
page_at pages n page there = sym (get_or_from_slice_get pages n page [] there)

last_page : (pages : List (List ℕ)) (n : ℕ) (page : List ℕ) → slice_get pages n ≡ Some page → get_or (take (n + 1) pages) n page ≡ page
last_page pages n page there = get_or-take (n + 1) pages n page (omega arith) ∙ get_or_from_slice_get pages n page page there

-- a page that isn't one of rows
pub page_breaks : (shape : RowShape) (told : Option (List (List ℕ))) (n offset : ℕ) (page : List ℕ) (firsts : List First) (lasts : List (List ℕ)) (empty : List ℕ) → IfSome told (λ pages. slice_get pages n ≡ Some page)
    → (IsRowPage shape page → ⊥) → offset ≡ break_place shape page → IfSome told (λ pages. TakesIn shape (take n pages) firsts lasts empty → BreaksAt shape pages n offset)
page_breaks shape told n offset page firsts lasts empty read bad place =
    told_both told (λ pages. slice_get pages n ≡ Some page) (λ pages. TakesIn shape (take n pages) firsts lasts empty → BreaksAt shape pages n offset) read (λ pages is there before. record {
      there = slice_get_within pages n page there;
      before = before.rule;
      breaks = λ rule. bad (subst (IsRowPage shape) (last_page pages n page there)
          (rule.each n page (omega (arith, length-take-le (n + 1) pages (omega (arith, slice_get_within pages n page there))))));
      place = place ∙ ap (break_place shape) (page_at pages n page there);
    })

sound_place : (shape : RowShape) (page : List ℕ) → 0 < shape.key → IsRowPage shape page → 16 ≡ break_place shape page
sound_place shape page some lawful =
    let rows : List Row = placed_rows shape page in
    let all : rising_count rows ≡ length rows = subst (λ (n : ℕ). rising_count (rows_from shape n (drop 16 page)) ≡ length (rows_from shape n (drop 16 page))) (sym (all_placed shape page some lawful)) lawful.rising in
    second_test (eqb (slice_index page 0) 2) (ltb (rising_count rows) (length rows)) (end_of shape (rising_count rows)) 16 (eq-eqb (slice_index page 0) 2 lawful.kind) (le-ltb (rising_count rows) (length rows) (omega (arith, all)))

-- a page that crosses one before it
pub page_crosses : (shape : RowShape) (told : Option (List (List ℕ))) (n : ℕ) (page : List ℕ) (firsts : List First) (lasts : List (List ℕ)) (empty : List ℕ) → 0 < shape.key → IfSome told (λ pages. slice_get pages n ≡ Some page) → IsRowPage shape page
    → ((table : List (List Row)) → AreTaken table firsts lasts empty → n ≡ length table → (m : ℕ) × (m < n) × (Apart (page_rows table m) (rows_in shape page) → ⊥))
    → IfSome told (λ pages. TakesIn shape (take n pages) firsts lasts empty → BreaksAt shape pages n 16)
page_crosses shape told n page firsts lasts empty some read lawful crosses =
    told_both told (λ pages. slice_get pages n ≡ Some page) (λ pages. TakesIn shape (take n pages) firsts lasts empty → BreaksAt shape pages n 16) read (λ pages is there before.
    let within : n < length pages = slice_get_within pages n page there in
    let table : List (List Row) = tables shape (take n pages) in
    let counted : n ≡ length table = sym (length-map (take n pages) (rows_in shape) ∙ length-take-le n pages (omega arith)) in
    let found = crosses table before.taken counted in
    let grown : tables shape (take (n + 1) pages) ≡ table ++ rows_in shape page ∷ [] = ap (tables shape) (one_more pages n page there) ∙ tables_more shape (take n pages) page in
    record {
      there = within;
      before = before.rule;
      breaks = λ rule.
          let apart : Apart (page_rows (tables shape (take (n + 1) pages)) found.0) (page_rows (tables shape (take (n + 1) pages)) n) = apart_from (page_rows (tables shape (take (n + 1) pages)) found.0) (page_rows (tables shape (take (n + 1) pages)) n) (rule.apart found.0 n found.1 (omega (arith, length-take-le (n + 1) pages (omega arith)))) in
          let same : Apart (page_rows (table ++ rows_in shape page ∷ []) found.0) (page_rows (table ++ rows_in shape page ∷ []) n) = subst (λ (t : List (List Row)). Apart (page_rows t found.0) (page_rows t n)) grown apart in
          found.2 (subst (λ (l : List Row). Apart l (rows_in shape page)) (page_old table (rows_in shape page) found.0 (omega (arith, found.1, counted)))
          (subst (Apart (page_rows (table ++ rows_in shape page ∷ []) found.0)) (page_new table (rows_in shape page) n counted) same));
      place = sound_place shape page some lawful ∙ ap (break_place shape) (page_at pages n page there);
    })

-- what a step leads to from what the steps before it led to
pub step_taken : (Next : List (List ℕ) → Type 0) (shape : RowShape) (told seen : Option (List (List ℕ))) (n : ℕ) (firsts : List First) (lasts : List (List ℕ)) (empty : List ℕ) → seen ≡ told
    → IfSome told (λ pages. TakesIn shape (take n pages) firsts lasts empty) → IfSome seen (λ pages. TakesIn shape (take n pages) firsts lasts empty → Next pages) → IfSome told Next
step_taken Next shape told seen n firsts lasts empty same before step =
    told_both told (λ pages. TakesIn shape (take n pages) firsts lasts empty) Next before (λ pages there taken.
    MatchOption-at_some ⊤ (λ l. TakesIn shape (take n l) firsts lasts empty → Next l) pages (same ∙ there) step taken)
