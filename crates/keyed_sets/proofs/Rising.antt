-- A walk over the rows of a page, up to the first that isn't above the one before it.
use Rattle.std.proofs.Common.{◌≡◌, ℕ, zero, suc, ◌+◌, ◌*◌, ◌<◌, ◌≤◌, Bool, true, false, cond, List, [], ◌∷◌, length, get_or, take, drop, sym, ap, ◌∙◌, drop-cons, arith}
use Rattle.std.proofs.lemmas.List.{drop_all}
use Rattle.std.proofs.lemmas.Option.{get_or_from_slice_get}
use Rattle.std.proofs.Math.Nat.{le-div_iff_mul-le, mul-div-le, mul-le-mul_left}
use Rattle.keyed_sets.specs.declared.row.RowShape.{RowShape}
use Rattle.keyed_sets.specs.Layout.{Row, row_length, rows_from, end_of, is_below}
use Rattle.keyed_sets.specs.Rule.{capacity, rising_count}
use Rattle.keyed_sets.proofs.Rows.{row_there}

pub none : Row
none = ([], [])

-- two rows that follow each other
pair_at : (rows : List Row) (at : ℕ) → at + 1 < length rows → drop at rows ≡ get_or rows at none ∷ get_or rows (at + 1) none ∷ drop (at + 2) rows
pair_at rows at lt =
    let one : at + 1 ≡ suc at = omega arith in
    let two : at + 2 ≡ suc (suc at) = omega arith in
    drop-cons rows at none (omega arith)
    ∙ ap (λ (z : List Row). get_or rows at none ∷ z) (drop-cons rows (suc at) none (omega arith))
    ∙ ap (λ (k : ℕ). get_or rows at none ∷ get_or rows k none ∷ drop (suc (suc at)) rows) (sym one)
    ∙ ap (λ (k : ℕ). get_or rows at none ∷ get_or rows (at + 1) none ∷ drop k rows) (sym two)

one_at : (rows : List Row) (at : ℕ) → at + 1 < length rows → drop (at + 1) rows ≡ get_or rows (at + 1) none ∷ drop (at + 2) rows
one_at rows at lt =
    let one : at + 1 ≡ suc at = omega arith in
    let two : at + 2 ≡ suc (suc at) = omega arith in
    ap (λ (k : ℕ). drop k rows) one ∙ drop-cons rows (suc at) none (omega arith)
    ∙ ap (λ (k : ℕ). get_or rows k none ∷ drop (suc (suc at)) rows) (sym one)
    ∙ ap (λ (k : ℕ). get_or rows (at + 1) none ∷ drop k rows) (sym two)

rising_if : (b : Bool) (n : ℕ) → b ≡ true → cond b (suc n) 1 ≡ suc n
rising_if b n is = ap (λ (x : Bool). cond x (suc n) 1) is

stopped_if : (b : Bool) (n : ℕ) → b ≡ false → cond b (suc n) 1 ≡ 1
stopped_if b n is = ap (λ (x : Bool). cond x (suc n) 1) is

pub rising_more : (rows : List Row) (at n : ℕ) → at + 1 < length rows → is_below ((get_or rows at none).0) ((get_or rows (at + 1) none).0) ≡ true
    → n ≡ at + rising_count (drop at rows) → n ≡ (at + 1) + rising_count (drop (at + 1) rows)
rising_more rows at n lt below so =
    let first : Row = get_or rows at none in
    let next : Row = get_or rows (at + 1) none in
    let rest : List Row = drop (at + 2) rows in
    let here : rising_count (drop at rows) ≡ suc (rising_count (next ∷ rest)) = ap rising_count (pair_at rows at lt) ∙ rising_if (is_below (first.0) (next.0)) (rising_count (next ∷ rest)) below in
    let there : rising_count (drop (at + 1) rows) ≡ rising_count (next ∷ rest) = ap rising_count (one_at rows at lt) in
    omega (arith, here, there, so)

pub rising_stops : (rows : List Row) (at n : ℕ) → at + 1 < length rows → is_below ((get_or rows at none).0) ((get_or rows (at + 1) none).0) ≡ false
    → n ≡ at + rising_count (drop at rows) → at + 1 ≡ n
rising_stops rows at n lt not_below so =
    let first : Row = get_or rows at none in
    let next : Row = get_or rows (at + 1) none in
    let rest : List Row = drop (at + 2) rows in
    let here : rising_count (drop at rows) ≡ 1 = ap rising_count (pair_at rows at lt) ∙ stopped_if (is_below (first.0) (next.0)) (rising_count (next ∷ rest)) not_below in
    omega (arith, here, so)

by : (b : Bool) {n m : ℕ} → n ≤ m → cond b (suc n) 1 ≤ suc m
by true le = omega (arith, le)
by false le = omega arith

-- one step of the walk, whose place counts from 1
pub rising_on : (rows : List Row) (k at m n : ℕ) (a b : List ℕ) → at ≡ k + 1 → m ≡ at → at < length rows → (get_or rows k none).0 ≡ a → (get_or rows at none).0 ≡ b → is_below a b ≡ true
    → n ≡ k + rising_count (drop k rows) → n ≡ m + rising_count (drop m rows)
rising_on rows k at m n a b is next lt first second below so =
    let second_key : (get_or rows (k + 1) none).0 ≡ b = ap (λ (j : ℕ). (get_or rows j none).0) (sym is) ∙ second in
    let rises : is_below ((get_or rows k none).0) ((get_or rows (k + 1) none).0) ≡ true = ap (λ (x : List ℕ). is_below x ((get_or rows (k + 1) none).0)) first ∙ ap (is_below a) second_key ∙ below in
    rising_more rows k n (omega arith) rises so ∙ ap (λ (j : ℕ). j + rising_count (drop j rows)) (sym is ∙ sym next)

pub rising_off : (rows : List Row) (k at n : ℕ) (a b : List ℕ) → at ≡ k + 1 → at < length rows → (get_or rows k none).0 ≡ a → (get_or rows at none).0 ≡ b → is_below a b ≡ false
    → n ≡ k + rising_count (drop k rows) → at ≡ n
rising_off rows k at n a b is lt first second not_below so =
    let second_key : (get_or rows (k + 1) none).0 ≡ b = ap (λ (j : ℕ). (get_or rows j none).0) (sym is) ∙ second in
    let stops : is_below ((get_or rows k none).0) ((get_or rows (k + 1) none).0) ≡ false = ap (λ (x : List ℕ). is_below x ((get_or rows (k + 1) none).0)) first ∙ ap (is_below a) second_key ∙ not_below in
    is ∙ rising_stops rows k n (omega arith) stops so

-- the walk comes to the last row, or there is none
pub rising_last : (rows : List Row) (k n count : ℕ) → length rows ≡ count → (count ≡ 0 → k ≡ 0) → (1 ≤ count → k + 1 ≡ count) → n ≡ k + rising_count (drop k rows) → count ≡ n
rising_last [] k n count long empty some so =
    let nothing : k ≡ 0 = empty (sym long) in
    let here : k + rising_count (drop k []) ≡ 0 = ap (λ (j : ℕ). j + rising_count (drop j [])) nothing in
    omega (arith, so, here, long)
rising_last (row ∷ rows) k n count long empty some so =
    let whole : List Row = row ∷ rows in
    let end : k + 1 ≡ count = some (omega (arith, long)) in
    let alone : drop k whole ≡ get_or whole k none ∷ [] = drop-cons whole k none (omega (arith, long, end)) ∙ ap (λ (z : List Row). get_or whole k none ∷ z) (drop_all (suc k) whole (omega (arith, long, end))) in
    let one : rising_count (drop k whole) ≡ 1 = ap rising_count alone in
    omega (arith, so, one, end)

-- the walk's key is the row's
pub walked_key : (shape : RowShape) (n : ℕ) (bytes : List ℕ) (at : ℕ) → at < n → (get_or (rows_from shape n bytes) at none).0 ≡ take shape.key (drop (row_length shape * at) bytes)
walked_key shape n bytes at lt = ap (λ (row : Row). row.0) (get_or_from_slice_get (rows_from shape n bytes) at _ none (row_there shape n bytes at lt))

pub rising-le : (rows : List Row) → rising_count rows ≤ length rows
rising-le [] = omega arith
rising-le (row ∷ []) = omega arith
rising-le (row ∷ next ∷ rows) = by (is_below (row.0) (next.0)) (rising-le (next ∷ rows))

pub capacity_place : (shape : RowShape) (n : ℕ) → n ≤ capacity shape → end_of shape n ≤ 4096
capacity_place shape n le = omega (arith, mul-le-mul_left (row_length shape) le, mul-div-le 4080 (row_length shape))

pub place_capacity : (shape : RowShape) (n : ℕ) → 0 < shape.key → end_of shape n ≤ 4096 → n ≤ capacity shape
place_capacity shape n some place =
    let len : ℕ = row_length shape in
    let pos : zero < len = omega arith in
    (le-div_iff_mul-le {k = len} {x = n} {y = 4080} pos).1 (omega arith)
