-- Changes of a list of rows: the last row that passes a test, found from the end, and names by their addresses.
use Rattle.std.proofs.Common.{◌≡◌, ℕ, zero, suc, ◌+◌, ◌-◌, ◌<◌, ◌≤◌, ◌==◌, nat_le, Bool, true, false, not, cond, ◌&&◌, List, [], ◌∷◌, ◌++◌, length, take, drop, insert, reverse, get_or, Some, Result, Ok, Err, refl, sym, ap, subst, ◌∙◌, arith}
use Rattle.std.specs.Prelude.{find, is_none, OnErr, OnOk}
use Rattle.std.specs.List.{prefix_len, suffix_len}
use Rattle.std.proofs.lemmas.Bool.{and_parts, and_from, eqb-true, leb-true, le-leb}
use Rattle.std.proofs.lemmas.Grind.{reverse_onto}
use Rattle.std.proofs.lemmas.List.{length-append, take-append-drop}
use Rattle.std.proofs.lemmas.List.Folds.{list_all-append}
use Rattle.hal_base.specs.declared.outcome.Memory.{Memory}
use Rattle.hal_base.specs.declared.place.Ilk.{Ilk}
use Rattle.hal_schema.specs.declared.row.Row.{Row}
use Rattle.hal_schema.specs.declared.schema.SegType.{SegType}
use Rattle.hal_schema.specs.Insertion.{through_last}
use Rattle.hal_schema.specs.Row.{is_new_name, same_name}
use Rattle.hal_schema.specs.Span.{is_deeper, replaced, with_content, without_span}
use Rattle.position_state.specs.Names.{names_are_up_to}

-- ---- through the last that passes, from the end

suffix_push : (q : Row → Bool) (xs : List Row) (x : Row) → suffix_len q (xs ++ x ∷ []) ≡ cond (q x) (1 + suffix_len q xs) 0
suffix_push q xs x = ap (prefix_len q) (turned xs)
  where
    turned : (ys : List Row) → reverse (ys ++ x ∷ []) ≡ x ∷ reverse ys
    turned [] = refl
    turned (y ∷ ys) = reverse_onto (ys ++ x ∷ []) y [] ∙ ap (λ (l : List Row). l ++ y ∷ []) (turned ys) ∙ ap (λ (l : List Row). x ∷ l) (sym (reverse_onto ys y []))

pub through_push : (test : Row → Bool) (xs : List Row) (x : Row) → through_last test (xs ++ x ∷ []) ≡ cond (test x) (length (xs ++ x ∷ [])) (through_last test xs)
through_push test xs x = by (test x) (suffix_push (λ (r : Row). not (test r)) xs x)
  where
    by : (b : Bool) → suffix_len (λ (r : Row). not (test r)) (xs ++ x ∷ []) ≡ cond (not b) (1 + suffix_len (λ (r : Row). not (test r)) xs) 0
        → length (xs ++ x ∷ []) - suffix_len (λ (r : Row). not (test r)) (xs ++ x ∷ []) ≡ cond b (length (xs ++ x ∷ [])) (length xs - suffix_len (λ (r : Row). not (test r)) xs)
    by true e = omega (arith, e)
    by false e =
        let n : length (xs ++ x ∷ []) ≡ length xs + 1 = length-append xs (x ∷ []) in
        let m : suffix_len (λ (r : Row). not (test r)) (xs ++ x ∷ []) ≡ 1 + suffix_len (λ (r : Row). not (test r)) xs = e in
        omega (arith, n, m)

-- ---- a row more from the end

pub take_last : (rows : List Row) (after : ℕ) (x : Row) → 0 < after → after ≤ length rows → x ≡ get_or rows (after - 1) x → take after rows ≡ take (after - 1) rows ++ x ∷ []
take_last rows after x some within is =
    let n : after ≡ suc (after - 1) = omega (arith, some) in
    ap (λ (k : ℕ). take k rows) n ∙ at rows (after - 1) (omega (arith, some, within)) is
  where
    at : (xs : List Row) (i : ℕ) → i < length xs → x ≡ get_or xs i x → take (suc i) xs ≡ take i xs ++ x ∷ []
    at [] i lt e = absurd (omega (arith, lt))
    at (y ∷ xs) zero lt e = ap (λ (r : Row). r ∷ []) (sym e)
    at (y ∷ xs) (suc i) lt e = ap (λ (l : List Row). y ∷ l) (at xs i (omega (arith, lt)) e)

pub length_taken : (xs : List Row) (n : ℕ) → n ≤ length xs → length (take n xs) ≡ n
length_taken xs zero le = refl
length_taken [] (suc n) le = absurd (omega (arith, le))
length_taken (y ∷ xs) (suc n) le = ap suc (length_taken xs n (omega (arith, le)))

pub through_here : (test : Row → Bool) (rows : List Row) (after : ℕ) (x : Row) → 0 < after → after ≤ length rows → x ≡ get_or rows (after - 1) x → test x ≡ true
    → through_last test rows ≡ through_last test (take after rows) → after ≡ through_last test rows
through_here test rows after x some within is passes e =
    let f : through_last test (take after rows) ≡ length (take (after - 1) rows ++ x ∷ []) =
    ap (through_last test) (take_last rows after x some within is) ∙ through_push test (take (after - 1) rows) x ∙ ap (λ (b : Bool). cond b (length (take (after - 1) rows ++ x ∷ [])) (through_last test (take (after - 1) rows))) passes in
    let long : length (take (after - 1) rows ++ x ∷ []) ≡ length (take after rows) = ap length (sym (take_last rows after x some within is)) in
    let all : length (take after rows) ≡ after = length_taken rows after within in
    sym (e ∙ f ∙ long ∙ all)

pub through_before : (test : Row → Bool) (rows : List Row) (after : ℕ) (x : Row) → 0 < after → after ≤ length rows → x ≡ get_or rows (after - 1) x → test x ≡ false
    → through_last test rows ≡ through_last test (take after rows) → through_last test rows ≡ through_last test (take (after - 1) rows)
through_before test rows after x some within is fails e =
    e ∙ ap (through_last test) (take_last rows after x some within is) ∙ through_push test (take (after - 1) rows) x
    ∙ ap (λ (b : Bool). cond b (length (take (after - 1) rows ++ x ∷ [])) (through_last test (take (after - 1) rows))) fails

-- what a call leaves that made a new list of an old one, or left it
pub either_is : {old new put : List Row} (P : List Row → Type 0) (result : Result (Unit {0}) Memory) → OnOk result (new ≡ put) → OnErr result (new ≡ old) → P put → P old → P new
either_is P (Ok done) ok err p q = subst P (sym ok) p
either_is P (Err why) ok err p q = subst P (sym err) q

-- ---- names that count up

fresh : (rows : List Row) (named : ℕ) → names_are_up_to named rows ≡ true → is_new_name rows (record { addr = named + 1; part = 1; number = 1 }) ≡ true
fresh [] named h = refl
fresh (row ∷ rows) named h = let a = and_parts (nat_le row.name.addr named) (names_are_up_to named rows) h in by (row.name.addr == named + 1) refl (fresh rows named a.1) (leb-true row.name.addr named a.0)
  where
    by : (b : Bool) → (row.name.addr == named + 1) ≡ b → is_new_name rows (record { addr = named + 1; part = 1; number = 1 }) ≡ true → row.name.addr ≤ named
        → is_none (cond (b && row.name.part == 1 && row.name.number == 1) (Some row) (find (λ (r : Row). same_name r.name (record { addr = named + 1; part = 1; number = 1 })) rows)) ≡ true
    by true e go le = let n = eqb-true row.name.addr (named + 1) e in absurd (omega (arith, n, le))
    by false e go le = go

pub is_fresh : (rows : List Row) (named : ℕ) → names_are_up_to named rows ≡ true → is_new_name rows (record { addr = named + 1; part = 1; number = 1 }) ≡ true
is_fresh rows named h = fresh rows named h

pub named_more : (rows : List Row) (named most : ℕ) → named ≤ most → names_are_up_to named rows ≡ true → names_are_up_to most rows ≡ true
named_more [] named most n h = refl
named_more (row ∷ rows) named most n h =
    let a = and_parts (nat_le row.name.addr named) (names_are_up_to named rows) h in
    let le = leb-true row.name.addr named a.0 in
    and_from (nat_le row.name.addr most) (names_are_up_to most rows) (le-leb row.name.addr most (omega (arith, n, le))) (named_more rows named most n a.1)

pub named_inserted : (rows : List Row) (k named : ℕ) (row : Row) → names_are_up_to named rows ≡ true → row.name.addr ≤ named → names_are_up_to named (insert rows k row) ≡ true
named_inserted rows k named row h le =
    let both = and_parts (names_are_up_to named (take k rows)) (names_are_up_to named (drop k rows))
    (sym (list_all-append (λ (r : Row). nat_le r.name.addr named) (take k rows) (drop k rows)) ∙ ap (names_are_up_to named) (take-append-drop k rows) ∙ h) in
    list_all-append (λ (r : Row). nat_le r.name.addr named) (take k rows) (row ∷ drop k rows)
    ∙ and_from (names_are_up_to named (take k rows)) (names_are_up_to named (row ∷ drop k rows)) both.0
    (and_from (nat_le row.name.addr named) (names_are_up_to named (drop k rows)) (le-leb row.name.addr named le) both.1)

-- one row more, with a highest address that is its own or that so far
pub named_pushed : (rows : List Row) (i highest most : ℕ) (row : Row) → names_are_up_to highest (take i rows) ≡ true → drop i rows ≡ row ∷ drop (i + 1) rows → highest ≤ most → row.name.addr ≤ most
    → names_are_up_to most (take (i + 1) rows) ≡ true
named_pushed rows i highest most row h e more own =
    ap (names_are_up_to most) (take_one_more rows i row e) ∙ list_all-append (λ (r : Row). nat_le r.name.addr most) (take i rows) (row ∷ [])
    ∙ and_from (names_are_up_to most (take i rows)) (names_are_up_to most (row ∷ [])) (named_more (take i rows) highest most more h)
    (and_from (nat_le row.name.addr most) true (le-leb row.name.addr most own) refl)
  where
    take_one_more : (xs : List Row) (i : ℕ) (x : Row) → drop i xs ≡ x ∷ drop (i + 1) xs → take (i + 1) xs ≡ take i xs ++ x ∷ []
    take_one_more xs i x e =
        let n : i + 1 ≡ suc i = omega arith in
        ap (λ k. take k xs) n ∙ at xs i (drop (i + 1) xs) e
      where
        at : (ys : List Row) (j : ℕ) (rest : List Row) → drop j ys ≡ x ∷ rest → take (suc j) ys ≡ take j ys ++ x ∷ []
        at ys zero rest f = ap (take 1) f
        at [] (suc j) rest f = cc f
        at (y ∷ ys) (suc j) rest f = ap (λ (l : List Row). y ∷ l) (at ys j rest f)

pub named_replaced : (rows : List Row) (named : ℕ) (name : Ilk) (content : List ℕ) → names_are_up_to named rows ≡ true → names_are_up_to named (replaced rows name content) ≡ true
named_replaced [] named name content h = refl
named_replaced (row ∷ rows) named name content h =
    let a = and_parts (nat_le row.name.addr named) (names_are_up_to named rows) h in
    by (same_name row.name name) (and_from (nat_le row.name.addr named) (names_are_up_to named (replaced rows name content)) a.0 (named_replaced rows named name content a.1))
  where
    by : (b : Bool) → (nat_le row.name.addr named && names_are_up_to named (replaced rows name content)) ≡ true
        → names_are_up_to named (cond b (with_content row content) row ∷ replaced rows name content) ≡ true
    by true e = e
    by false e = e

named_dropped : (rows : List Row) (n named : ℕ) → names_are_up_to named rows ≡ true → names_are_up_to named (drop n rows) ≡ true
named_dropped rows zero named h = h
named_dropped [] (suc n) named h = refl
named_dropped (row ∷ rows) (suc n) named h = named_dropped rows n named (and_parts (nat_le row.name.addr named) (names_are_up_to named rows) h).1

pub named_without : (types : List SegType) (rows : List Row) (named : ℕ) (name : Ilk) → names_are_up_to named rows ≡ true → names_are_up_to named (without_span types rows name) ≡ true
named_without types [] named name h = refl
named_without types (row ∷ rows) named name h =
    let a = and_parts (nat_le row.name.addr named) (names_are_up_to named rows) h in
    by (same_name row.name name) (named_dropped rows (prefix_len (is_deeper types row) rows) named a.1)
    (and_from (nat_le row.name.addr named) (names_are_up_to named (without_span types rows name)) a.0 (named_without types rows named name a.1))
  where
    by : (b : Bool) → names_are_up_to named (drop (prefix_len (is_deeper types row) rows) rows) ≡ true
        → (nat_le row.name.addr named && names_are_up_to named (without_span types rows name)) ≡ true
        → names_are_up_to named (cond b (drop (prefix_len (is_deeper types row) rows) rows) (row ∷ without_span types rows name)) ≡ true
    by true e f = e
    by false e f = f
