-- What a page is where the walk over it ends.
use Rattle.std.proofs.Common.{◌≡◌, ℕ, ◌-◌, ◌<◌, ◌≤◌, Bool, true, false, cond, List, length, drop, replicate, min, eqb, ltb, sym, ap, subst, ◌∙◌, arith}
use Rattle.std.specs.Prelude.{◌&&◌, slice_index}
use Rattle.std.proofs.lemmas.Bool.{ne_eqb, eq-eqb, lt-ltb, le-ltb}
use Rattle.keyed_sets.specs.declared.row.RowShape.{RowShape}
use Rattle.keyed_sets.specs.Layout.{Row, rows_from, count_of, end_of}
use Rattle.keyed_sets.specs.Rule.{capacity, rising_count, IsRowPage, placed_rows, break_place}
use Rattle.keyed_sets.proofs.Rows.{length-rows_from}
use Rattle.keyed_sets.proofs.Rising.{rising-le, capacity_place, place_capacity}

pub is_row_page : (shape : RowShape) (page : List ℕ) (placed rising : ℕ) → slice_index page 0 ≡ 2 → placed ≡ min (count_of page) (capacity shape) → rising ≡ rising_count (rows_from shape placed (drop 16 page)) → placed ≤ rising
    → count_of page ≤ placed → drop (end_of shape placed) page ≡ replicate (4096 - end_of shape placed) 0 → IsRowPage shape page
is_row_page shape page placed rising kind are rises all many zeros =
    let same : placed ≡ count_of page = omega (arith, are, many) in
    let rows : List Row = rows_from shape placed (drop 16 page) in
    let risen : rising_count rows ≡ length rows = omega (arith, rising-le rows, length-rows_from shape placed (drop 16 page), rises, all) in
    record {
      kind = kind;
      place = capacity_place shape (count_of page) (omega (arith, are, same));
      rising = subst (λ (n : ℕ). rising_count (rows_from shape n (drop 16 page)) ≡ length (rows_from shape n (drop 16 page))) same risen;
      zeros = subst (λ (n : ℕ). drop (end_of shape n) page ≡ replicate (4096 - end_of shape n) 0) same zeros;
    }

-- where a page of rows has place for all, those that have place are its rows
pub all_placed : (shape : RowShape) (page : List ℕ) → 0 < shape.key → IsRowPage shape page → min (count_of page) (capacity shape) ≡ count_of page
all_placed shape page some is = omega (arith, place_capacity shape (count_of page) some is.place)

kind_test : (a b : Bool) (x y : ℕ) → a ≡ false → y ≡ cond (a && b) x y
kind_test a b x y is = ap (λ (c : Bool). cond (c && b) x y) (sym is)

both_tests : (a b : Bool) (x y : ℕ) → a ≡ true → b ≡ true → x ≡ cond (a && b) x y
both_tests a b x y is so = ap (λ (c : Bool). cond (true && c) x y) (sym so) ∙ ap (λ (c : Bool). cond (c && b) x y) (sym is)

pub second_test : (a b : Bool) (x y : ℕ) → a ≡ true → b ≡ false → y ≡ cond (a && b) x y
second_test a b x y is so = ap (λ (c : Bool). cond (true && c) x y) (sym so) ∙ ap (λ (c : Bool). cond (c && b) x y) (sym is)

pub breaks_by_kind : (shape : RowShape) (page : List ℕ) → (slice_index page 0 ≡ 2 → ⊥) → (IsRowPage shape page → ⊥) × (16 ≡ break_place shape page)
breaks_by_kind shape page other =
    let rows : List Row = placed_rows shape page in
    (λ is. other is.kind, kind_test (eqb (slice_index page 0) 2) (ltb (rising_count rows) (length rows)) (end_of shape (rising_count rows)) 16 (ne_eqb (slice_index page 0) 2 other))

pub breaks_at_row : (shape : RowShape) (page : List ℕ) (placed rising offset : ℕ) → 0 < shape.key → slice_index page 0 ≡ 2 → placed ≡ min (count_of page) (capacity shape) → rising ≡ rising_count (rows_from shape placed (drop 16 page))
    → rising < placed → offset ≡ end_of shape rising → (IsRowPage shape page → ⊥) × (offset ≡ break_place shape page)
breaks_at_row shape page placed rising offset some kind are rises less at =
    let rows : List Row = placed_rows shape page in
    let same : rising ≡ rising_count rows = rises ∙ ap (λ (n : ℕ). rising_count (rows_from shape n (drop 16 page))) are in
    let many : length rows ≡ placed = length-rows_from shape (min (count_of page) (capacity shape)) (drop 16 page) ∙ sym are in
    let never : IsRowPage shape page → ⊥ = λ is.
    let all : rising_count rows ≡ length rows =
    subst (λ (n : ℕ). rising_count (rows_from shape n (drop 16 page)) ≡ length (rows_from shape n (drop 16 page))) (sym (all_placed shape page some is)) is.rising in
    omega (arith, same, many, all, less) in (
      never,
      at ∙ ap (end_of shape) same
          ∙ both_tests (eqb (slice_index page 0) 2) (ltb (rising_count rows) (length rows)) (end_of shape (rising_count rows)) 16 (eq-eqb (slice_index page 0) 2 kind) (lt-ltb (rising_count rows) (length rows) (omega (arith, same, many, less))),
    )

pub breaks_behind : (shape : RowShape) (page : List ℕ) (placed rising : ℕ) → 0 < shape.key → slice_index page 0 ≡ 2 → placed ≡ min (count_of page) (capacity shape) → rising ≡ rising_count (rows_from shape placed (drop 16 page))
    → placed ≤ rising → ((count_of page ≤ placed) × (drop (end_of shape placed) page ≡ replicate (4096 - end_of shape placed) 0) → ⊥) → (IsRowPage shape page → ⊥) × (16 ≡ break_place shape page)
breaks_behind shape page placed rising some kind are rises all bad =
    let rows : List Row = placed_rows shape page in
    let same : rising ≡ rising_count rows = rises ∙ ap (λ (n : ℕ). rising_count (rows_from shape n (drop 16 page))) are in
    let many : length rows ≡ placed = length-rows_from shape (min (count_of page) (capacity shape)) (drop 16 page) ∙ sym are in
    let never : IsRowPage shape page → ⊥ = λ is.
    let counted : count_of page ≡ placed = sym (are ∙ all_placed shape page some is) in
    bad (omega (arith, counted), subst (λ (n : ℕ). drop (end_of shape n) page ≡ replicate (4096 - end_of shape n) 0) counted is.zeros) in
    (never, second_test (eqb (slice_index page 0) 2) (ltb (rising_count rows) (length rows)) (end_of shape (rising_count rows)) 16 (eq-eqb (slice_index page 0) 2 kind) (le-ltb (rising_count rows) (length rows) (omega (arith, same, many, all))))
