-- Other rows in a page.
use Rattle.std.proofs.Common.{◌≡◌, ℕ, zero, suc, ◌+◌, ◌-◌, ◌*◌, ◌^◌, ◌<◌, ◌≤◌, List, [], ◌∷◌, ◌++◌, length, take, drop, replicate, sym, ap, subst, ◌∙◌, append_assoc, arith}
use Rattle.std.specs.Int.{w16, to_be_bytes, from_be_bytes}
use Rattle.std.proofs.lemmas.Nat.{from_be_bytes-to_be_bytes_2}
use Rattle.std.proofs.lemmas.List.{length-append, length-take-le, length-drop, drop-drop, take_at, drop_at, take-append-le, drop-append-le, take-take, drop-take, take-append-drop}
use Rattle.std.proofs.lemmas.List.Concat.{flat_map-append}
use Rattle.hal_base.specs.Pages.{SameHead}
use Rattle.keyed_sets.specs.declared.row.RowShape.{RowShape}
use Rattle.keyed_sets.specs.Layout.{Row, row_length, spelled_row, spelled, rows_from, rows_in, count_of, end_of, HasZeros, PutsRows}
use Rattle.keyed_sets.proofs.Rows.{AreShaped, rows_read, rows_spelled, rows_shaped, length-spelled, length-rows_in}

-- rows that are spelled behind a head that counts them
pub reads_rows : (shape : RowShape) (old new : List ℕ) (list : List Row) (rest : List ℕ) (n : ℕ) → SameHead old new → count_of new ≡ n → n ≡ length list → AreShaped shape list → end_of shape n ≤ 4096
    → drop 16 new ≡ spelled list ++ rest → (HasZeros shape old → rest ≡ replicate (4096 - end_of shape n) 0) → PutsRows shape old new list
reads_rows shape old new list rest n head number counted shaped place from_rows zeros =
    let behind : drop (end_of shape n) new ≡ rest =
    sym (drop-drop (row_length shape * n) 16 new) ∙ ap (drop (row_length shape * n)) from_rows
    ∙ drop_at (spelled list) rest (row_length shape * n) (length-spelled shape list shaped ∙ ap (λ (k : ℕ). row_length shape * k) (sym counted)) in
    record {
      head = head;
      place = subst (λ (k : ℕ). end_of shape k ≤ 4096) (sym number) place;
      count = number ∙ counted;
      rows = ap (λ (k : ℕ). rows_from shape k (drop 16 new)) (number ∙ counted) ∙ ap (rows_from shape (length list)) from_rows ∙ rows_read shape list rest shaped;
      zeros = λ were. subst (λ (k : ℕ). drop (end_of shape k) new ≡ replicate (4096 - end_of shape k) 0) (sym number) (behind ∙ zeros were);
    }

-- rows that were spelled behind the head, and counted in it
pub puts_rows : (shape : RowShape) (old mid new : List ℕ) (list : List Row) (rest : List ℕ) (n : ℕ) → length old ≡ 4096 → n < 2 ^ 16 → n ≡ length list → AreShaped shape list → end_of shape n ≤ 4096
    → mid ≡ take 16 old ++ (spelled list ++ rest) → new ≡ take 8 mid ++ to_be_bytes w16 n ++ drop 10 mid → (HasZeros shape old → rest ≡ replicate (4096 - end_of shape n) 0) → PutsRows shape old new list
puts_rows shape old mid new list rest n whole small counted shaped place is put zeros =
    let t : List ℕ = spelled list ++ rest in
    let head : List ℕ = take 16 old in
    let sixteen : length head ≡ 16 = length-take-le 16 old (omega arith) in
    let six : List ℕ = take 6 (drop 10 old) in
    let mark : List ℕ = take 8 old in
    let count : List ℕ = to_be_bytes w16 n in
    let six_long : length six ≡ 6 = length-take-le 6 (drop 10 old) (omega (arith, length-drop 10 old)) in
    let mark_long : length mark ≡ 8 = length-take-le 8 old (omega arith) in
    let front : take 8 mid ≡ mark = ap (take 8) is ∙ take-append-le 8 head t (omega arith) ∙ take-take 8 16 old (omega arith) in
    let back : drop 10 mid ≡ six ++ t = ap (drop 10) is ∙ drop-append-le 10 head t (omega arith) ∙ ap (λ (z : List ℕ). z ++ t) (drop-take 10 6 old) in
    let made : new ≡ mark ++ (count ++ (six ++ t)) =
    put ∙ ap (λ (z : List ℕ). z ++ count ++ drop 10 mid) front ∙ ap (λ (z : List ℕ). mark ++ count ++ z) back ∙ append_assoc mark count (six ++ t) in
    let from_count : drop 8 new ≡ count ++ (six ++ t) = ap (drop 8) made ∙ drop_at mark (count ++ (six ++ t)) 8 mark_long in
    let from_ten : drop 10 new ≡ six ++ t = sym (drop-drop 2 8 new) ∙ ap (drop 2) from_count in
    reads_rows shape old new list rest n
    (record { set = ap (take 8) made ∙ take_at mark (count ++ (six ++ t)) 8 mark_long; rest = ap (take 6) from_ten ∙ take_at six t 6 six_long })
    (ap (λ (z : List ℕ). from_be_bytes w16 (take 2 z)) from_count ∙ from_be_bytes-to_be_bytes_2 n small) counted shaped place
    (sym (drop-drop 6 10 new) ∙ ap (drop 6) from_ten ∙ drop_at six t 6 six_long) zeros

-- other bytes behind the head
pub record BehindHead (old new t : List ℕ) : Type 0 where
  pub head : SameHead old new
  pub count : count_of new ≡ count_of old
  pub rest : drop 16 new ≡ t

pub behind_head : (old new t : List ℕ) → length old ≡ 4096 → new ≡ take 16 old ++ t → BehindHead old new t
behind_head old new t whole is =
    let head : List ℕ = take 16 old in
    let sixteen : length head ≡ 16 = length-take-le 16 old (omega arith) in
    record {
      head = record {
        set = ap (take 8) is ∙ take-append-le 8 head t (omega arith) ∙ take-take 8 16 old (omega arith);
        rest = ap (λ (z : List ℕ). take 6 (drop 10 z)) is ∙ ap (take 6) (drop-append-le 10 head t (omega arith)) ∙ take-append-le 6 (drop 10 head) t (omega (arith, length-drop 10 head)) ∙ ap (take 6) (drop-take 10 6 old) ∙ take-take 6 6 (drop 10 old) (omega arith);
      };
      count = ap (from_be_bytes w16) (ap (λ (z : List ℕ). take 2 (drop 8 z)) is ∙ ap (take 2) (drop-append-le 8 head t (omega arith)) ∙ take-append-le 2 (drop 8 head) t (omega (arith, length-drop 8 head))
          ∙ ap (take 2) (drop-take 8 8 old) ∙ take-take 2 8 (drop 8 old) (omega arith));
      rest = ap (drop 16) is ∙ drop_at head t 16 sixteen;
    }

pub AreShaped-append : (shape : RowShape) (xs ys : List Row) → AreShaped shape xs → AreShaped shape ys → AreShaped shape (xs ++ ys)
AreShaped-append shape [] ys left right = right
AreShaped-append shape (x ∷ xs) ys left right = (left.0, AreShaped-append shape xs ys left.1 right)

AreShaped-take : (shape : RowShape) (n : ℕ) (rows : List Row) → AreShaped shape rows → AreShaped shape (take n rows)
AreShaped-take shape zero rows are = tt
AreShaped-take shape (suc n) [] are = tt
AreShaped-take shape (suc n) (row ∷ rows) are = (are.0, AreShaped-take shape n rows are.1)

AreShaped-drop : (shape : RowShape) (n : ℕ) (rows : List Row) → AreShaped shape rows → AreShaped shape (drop n rows)
AreShaped-drop shape zero rows are = are
AreShaped-drop shape (suc n) [] are = tt
AreShaped-drop shape (suc n) (row ∷ rows) are = AreShaped-drop shape n rows are.1

pub sum_of : (len a b n : ℕ) → a + b ≡ n → len * a + len * b ≡ len * n
sum_of len a b n is = subst (λ (k : ℕ). len * a + len * b ≡ len * k) is (omega arith)

-- a page as it stands: its head, the rows before a place, those behind it, and the rest
pub record Parts (shape : RowShape) (page : List ℕ) (at : ℕ) : Type 0 where
  pub is : page ≡ (take 16 page ++ spelled (take at (rows_in shape page))) ++ (spelled (drop at (rows_in shape page)) ++ drop (end_of shape (count_of page)) page)
  pub front : length (take 16 page ++ spelled (take at (rows_in shape page))) ≡ end_of shape at
  pub head : length (take 16 page) ≡ 16
  pub before : AreShaped shape (take at (rows_in shape page))
  pub after : AreShaped shape (drop at (rows_in shape page))
  pub taken : length (take at (rows_in shape page)) ≡ at
  pub left : length (drop at (rows_in shape page)) ≡ count_of page - at
  pub rows : length (spelled (drop at (rows_in shape page))) ≡ end_of shape (count_of page) - end_of shape at
  pub rest : length (drop (end_of shape (count_of page)) page) ≡ 4096 - end_of shape (count_of page)
  pub ordered : end_of shape at ≤ end_of shape (count_of page)

pub parts : (shape : RowShape) (page : List ℕ) (at : ℕ) → length page ≡ 4096 → at ≤ count_of page → end_of shape (count_of page) ≤ 4096 → Parts shape page at
parts shape page at whole within place =
    let rows : List Row = rows_in shape page in
    let n : ℕ = count_of page in
    let len : ℕ = row_length shape in
    let body : List ℕ = drop 16 page in
    let rest : List ℕ = drop (end_of shape n) page in
    let before : List Row = take at rows in
    let after : List Row = drop at rows in
    let sixteen : length (take 16 page) ≡ 16 = length-take-le 16 page (omega arith) in
    let shaped : AreShaped shape rows = rows_shaped shape n body (omega (arith, length-drop 16 page)) in
    let many : length rows ≡ n = length-rows_in shape page in
    let taken : length before ≡ at = length-take-le at rows (omega arith) in
    let left : length after ≡ n - at = omega (arith, length-drop at rows) in
    let before_shaped : AreShaped shape before = AreShaped-take shape at rows shaped in
    let after_shaped : AreShaped shape after = AreShaped-drop shape at rows shaped in
    let before_long : length (spelled before) ≡ len * at = length-spelled shape before before_shaped ∙ ap (λ (k : ℕ). len * k) taken in
    let after_long : length (spelled after) ≡ len * (n - at) = length-spelled shape after after_shaped ∙ ap (λ (k : ℕ). len * k) left in
    let sum : len * at + len * (n - at) ≡ len * n = sum_of len at (n - at) n (omega arith) in
    let two : spelled rows ≡ spelled before ++ spelled after = ap spelled (sym (take-append-drop at rows)) ∙ flat_map-append spelled_row before after in
    let spelling : body ≡ spelled before ++ (spelled after ++ rest) =
    rows_spelled shape n body ∙ ap (λ (z : List ℕ). spelled rows ++ z) (drop-drop (len * n) 16 page) ∙ ap (λ (z : List ℕ). z ++ rest) two ∙ append_assoc (spelled before) (spelled after) rest in
    record {
      is = sym (take-append-drop 16 page) ∙ ap (λ (z : List ℕ). take 16 page ++ z) spelling ∙ sym (append_assoc (take 16 page) (spelled before) (spelled after ++ rest));
      front = omega (arith, length-append (take 16 page) (spelled before), sixteen, before_long);
      head = sixteen;
      before = before_shaped;
      after = after_shaped;
      taken = taken;
      left = left;
      rows = omega (arith, after_long, sum);
      rest = omega (arith, length-drop (end_of shape n) page);
      ordered = omega (arith, sum);
    }
