-- A number put in its place among others, and the numbers of the pages without rows.
use Rattle.std.proofs.Common.{◌≡◌, ℕ, zero, suc, ◌+◌, ◌<◌, ◌≤◌, Bool, cond, List, [], ◌∷◌, ◌++◌, length, get_or, take, drop, inl, inr, refl, sym, ap, ◌∙◌, append_assoc, arith}
use Rattle.std.specs.Prelude.{Contains, insert}
use Rattle.std.proofs.lemmas.Bool.{lt-ltb, le-ltb}
use Rattle.std.proofs.lemmas.List.{drop_more, take_more, drop_all}
use Rattle.keyed_sets.specs.Layout.{Row}
use Rattle.keyed_sets.specs.Standing.{with_number}
use Rattle.keyed_sets.specs.Index.{empty_numbers}
use Rattle.keyed_sets.proofs.Members.{front_or}

number_behind : (n m : ℕ) (ms : List ℕ) → m < n → with_number n (m ∷ ms) ≡ m ∷ with_number n ms
number_behind n m ms lt = ap (λ (b : Bool). cond b (m ∷ with_number n ms) (n ∷ m ∷ ms)) (lt-ltb m n lt)

number_ahead : (n m : ℕ) (ms : List ℕ) → n ≤ m → with_number n (m ∷ ms) ≡ n ∷ m ∷ ms
number_ahead n m ms le = ap (λ (b : Bool). cond b (m ∷ with_number n ms) (n ∷ m ∷ ms)) (le-ltb m n le)

pub number_more : (numbers : List ℕ) (n at : ℕ) (all : List ℕ) → at < length numbers → get_or numbers at 0 < n → all ≡ take at numbers ++ with_number n (drop at numbers) → all ≡ take (at + 1) numbers ++ with_number n (drop (at + 1) numbers)
number_more numbers n at all lt below so =
    let m : ℕ = get_or numbers at 0 in
    so ∙ ap (λ (l : List ℕ). take at numbers ++ with_number n l) (drop_more numbers at 0 lt) ∙ ap (λ (l : List ℕ). take at numbers ++ l) (number_behind n m (drop (at + 1) numbers) below)
    ∙ sym (append_assoc (take at numbers) (m ∷ []) (with_number n (drop (at + 1) numbers))) ∙ ap (λ (l : List ℕ). l ++ with_number n (drop (at + 1) numbers)) (sym (take_more numbers at 0 lt))

pub number_here : (numbers : List ℕ) (n at : ℕ) (all : List ℕ) → at < length numbers → n ≤ get_or numbers at 0 → all ≡ take at numbers ++ with_number n (drop at numbers) → insert numbers at n ≡ all
number_here numbers n at all lt above so =
    let m : ℕ = get_or numbers at 0 in
    let put : with_number n (drop at numbers) ≡ n ∷ drop at numbers = ap (with_number n) (drop_more numbers at 0 lt) ∙ number_ahead n m (drop (at + 1) numbers) above ∙ ap (λ (l : List ℕ). n ∷ l) (sym (drop_more numbers at 0 lt)) in
    sym (so ∙ ap (λ (l : List ℕ). take at numbers ++ l) put)

pub number_last : (numbers : List ℕ) (n at : ℕ) (all : List ℕ) → at ≡ length numbers → all ≡ take at numbers ++ with_number n (drop at numbers) → insert numbers at n ≡ all
number_last numbers n at all is so =
    let nothing : drop at numbers ≡ [] = drop_all at numbers (omega (arith, is)) in
    sym (so ∙ ap (λ (l : List ℕ). take at numbers ++ with_number n l) nothing ∙ ap (λ (l : List ℕ). take at numbers ++ n ∷ l) (sym nothing))

-- a page that has rows, before and after
pub numbers_same : (from : ℕ) (table : List (List Row)) (n : ℕ) (rows : List Row) → n < length table → (get_or table n [] ≡ [] → ⊥) → (rows ≡ [] → ⊥) → empty_numbers from (take n table ++ rows ∷ drop (n + 1) table) ≡ empty_numbers from table
numbers_same from [] n rows lt some more = absurd (omega (arith, lt))
numbers_same from ([] ∷ table) zero rows lt some more = absurd (some refl)
numbers_same from ((row ∷ others) ∷ table) zero [] lt some more = absurd (more refl)
numbers_same from ((row ∷ others) ∷ table) zero (first ∷ rows) lt some more = refl
numbers_same from ([] ∷ table) (suc n) rows lt some more =
    let one : suc n + 1 ≡ suc (n + 1) = omega arith in
    ap (λ (k : ℕ). from ∷ empty_numbers (from + 1) (take n table ++ rows ∷ drop k ([] ∷ table))) one
    ∙ ap (λ (l : List ℕ). from ∷ l) (numbers_same (from + 1) table n rows (omega (arith, lt)) some more)
numbers_same from ((row ∷ others) ∷ table) (suc n) rows lt some more =
    let one : suc n + 1 ≡ suc (n + 1) = omega arith in
    ap (λ (k : ℕ). empty_numbers (from + 1) (take n table ++ rows ∷ drop k ((row ∷ others) ∷ table))) one ∙ numbers_same (from + 1) table n rows (omega (arith, lt)) some more

with_first : (n : ℕ) (numbers : List ℕ) → ((m : ℕ) → Contains numbers m → n ≤ m) → with_number n numbers ≡ n ∷ numbers
with_first n [] least = refl
with_first n (m ∷ ms) least = number_ahead n m ms (least m (0, omega arith, refl))

numbers_from : (from : ℕ) (table : List (List Row)) (m : ℕ) → Contains (empty_numbers from table) m → from ≤ m
numbers_from from [] m c = absurd (omega (arith, c.1))
numbers_from from ([] ∷ table) m c = elim (front_or from (empty_numbers (from + 1) table) m c) [ inl is ↦ omega (arith, is) | inr d ↦ omega (arith, numbers_from (from + 1) table m d) ]
numbers_from from ((row ∷ others) ∷ table) m c = omega (arith, numbers_from (from + 1) table m c)

-- a page that has no rows any more
pub numbers_left : (from : ℕ) (table : List (List Row)) (n : ℕ) → n < length table → (get_or table n [] ≡ [] → ⊥) → empty_numbers from (take n table ++ [] ∷ drop (n + 1) table) ≡ with_number (from + n) (empty_numbers from table)
numbers_left from [] n lt some = absurd (omega (arith, lt))
numbers_left from ([] ∷ table) zero lt some = absurd (some refl)
numbers_left from ((row ∷ others) ∷ table) zero lt some =
    let same : from ≡ from + 0 = omega arith in
    sym (with_first from (empty_numbers (from + 1) table) (λ m c. omega (arith, numbers_from (from + 1) table m c))) ∙ ap (λ (k : ℕ). with_number k (empty_numbers (from + 1) table)) same
numbers_left from ([] ∷ table) (suc n) lt some =
    let one : suc n + 1 ≡ suc (n + 1) = omega arith in
    let sum : (from + 1) + n ≡ from + suc n = omega arith in
    ap (λ (k : ℕ). from ∷ empty_numbers (from + 1) (take n table ++ [] ∷ drop k ([] ∷ table))) one
    ∙ ap (λ (l : List ℕ). from ∷ l) (numbers_left (from + 1) table n (omega (arith, lt)) some ∙ ap (λ (k : ℕ). with_number k (empty_numbers (from + 1) table)) sum)
    ∙ sym (number_behind (from + suc n) from (empty_numbers (from + 1) table) (omega arith))
numbers_left from ((row ∷ others) ∷ table) (suc n) lt some =
    let one : suc n + 1 ≡ suc (n + 1) = omega arith in
    let sum : (from + 1) + n ≡ from + suc n = omega arith in
    ap (λ (k : ℕ). empty_numbers (from + 1) (take n table ++ [] ∷ drop k ((row ∷ others) ∷ table))) one
    ∙ numbers_left (from + 1) table n (omega (arith, lt)) some ∙ ap (λ (k : ℕ). with_number k (empty_numbers (from + 1) table)) sum

-- the first page without rows, once it has some
pub record FirstNumber (from n : ℕ) (rest : List ℕ) (table : List (List Row)) : Type 0 where
  pub place : ℕ
  pub is : n ≡ from + place
  pub within : place < length table
  pub nothing : get_or table place [] ≡ []
  pub later : (row : Row) (rows : List Row) → empty_numbers from (take place table ++ (row ∷ rows) ∷ drop (place + 1) table) ≡ rest

same_head : (a n : ℕ) (xs ns : List ℕ) → a ∷ xs ≡ n ∷ ns → (a ≡ n) × (xs ≡ ns)
same_head a n xs ns is = (cc, cc)

pub first_number : (from n : ℕ) (rest : List ℕ) (table : List (List Row)) → empty_numbers from table ≡ n ∷ rest → FirstNumber from n rest table
first_number from n rest [] is = absurd (let long : 0 ≡ suc (length rest) = ap (λ (l : List ℕ). length l) is in omega (arith, long))
first_number from n rest ([] ∷ table) is =
    let parts = same_head from n (empty_numbers (from + 1) table) rest is in
    record {
      place = 0;
      is = omega (arith, parts.0);
      within = omega arith;
      nothing = refl;
      later = λ row rows. parts.1;
    }
first_number from n rest ((row ∷ others) ∷ table) is =
    let more = first_number (from + 1) n rest table is in
    record {
      place = suc more.place;
      is = omega (arith, more.is);
      within = omega (arith, more.within);
      nothing = more.nothing;
      later = λ first rows.
          let one : suc more.place + 1 ≡ suc (more.place + 1) = omega arith in
          ap (λ (k : ℕ). empty_numbers from (take (suc more.place) ((row ∷ others) ∷ table) ++ (first ∷ rows) ∷ drop k ((row ∷ others) ∷ table))) one ∙ more.later first rows;
    }
