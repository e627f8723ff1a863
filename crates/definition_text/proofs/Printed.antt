-- Operands as they are printed: a keyword, and a text alone or texts in parentheses.
use Rattle.std.proofs.Common.{◌≡◌, ℕ, suc, ◌+◌, ◌<◌, ◌≤◌, Bool, true, false, ◌&&◌, ◌==◌, not, nat_le, nat_lt, cond, List, [], ◌∷◌, ◌++◌, length, map, refl, sym, ap, ◌∙◌, arith, append_assoc, append-nil}
use Rattle.std.proofs.lemmas.Bool.{and_parts, and_from, leb-true, le-leb, lt-ltb}
use Rattle.std.proofs.lemmas.Bool.Decides.{nat_tests}
use Rattle.std.proofs.lemmas.List.Folds.{list_all-append}
use Rattle.std.specs.List.{list_all}

-- printable, no blank, no quote and no lower-case letter
abbrev pub is_solid : ℕ → Bool
is_solid b = nat_le 33 b && nat_le b 126 && not (b == 39) && not (nat_le 97 b && nat_le b 122)

-- besides, no comma, parenthesis or equal sign
abbrev pub is_inner : ℕ → Bool
is_inner b = is_solid b && not (b == 44) && not (b == 40) && not (b == 41) && not (b == 61)

abbrev pub is_short : List ℕ → Bool
is_short x = list_all is_inner x && nat_le (length x) 20

pub data Value : Type 0 where
  alone : List ℕ → Value
  listed : List ℕ → List (List ℕ) → Value

abbrev pub with_commas : List ℕ → List (List ℕ) → List ℕ
with_commas x [] = x
with_commas x (y ∷ ys) = x ++ 44 ∷ with_commas y ys

abbrev pub value_text : Value → List ℕ
value_text (alone x) = x
value_text (listed x xs) = 40 ∷ (with_commas x xs ++ 41 ∷ [])

pub record Printed : Type 0 where
  pub key : List ℕ
  pub value : Value

abbrev pub operand_text : Printed → List ℕ
operand_text o = o.key ++ 61 ∷ value_text o.value

abbrev pub operands_text : Printed → List Printed → List ℕ
operands_text o os = with_commas (operand_text o) (map operand_text os)

-- texts that a value holds are short and hold nothing that parts them
abbrev pub IsValue : Value → Type 0
IsValue (alone x) = is_short x ≡ true
IsValue (listed x xs) = (is_short x ≡ true) × (list_all is_short xs ≡ true)

pub record IsPrinted (o : Printed) : Type 0 where
  pub key : is_short o.key ≡ true
  pub value : IsValue o.value

abbrev pub ArePrinted : List Printed → Type 0
ArePrinted [] = Unit {0}
ArePrinted (o ∷ os) = IsPrinted o × ArePrinted os

-- ---- bytes

pub all_imply : (p q : ℕ → Bool) → ((b : ℕ) → p b ≡ true → q b ≡ true) → (s : List ℕ) → list_all p s ≡ true → list_all q s ≡ true
all_imply p q more [] h = refl
all_imply p q more (b ∷ s) h =
    let (here, later) = and_parts (p b) (list_all p s) h in
    and_from (q b) (list_all q s) (more b here) (all_imply p q more s later)

pub all_append : (p : ℕ → Bool) (xs ys : List ℕ) → list_all p xs ≡ true → list_all p ys ≡ true → list_all p (xs ++ ys) ≡ true
all_append p xs ys h g = list_all-append p xs ys ∙ and_from (list_all p xs) (list_all p ys) h g

pub short_inner : (x : List ℕ) → is_short x ≡ true → list_all is_inner x ≡ true
short_inner x h = (and_parts (list_all is_inner x) (nat_le (length x) 20) h).0

pub short_length : (x : List ℕ) → is_short x ≡ true → length x ≤ 20
short_length x h = leb-true (length x) 20 (and_parts (list_all is_inner x) (nat_le (length x) 20) h).1

inner_solid : (b : ℕ) → is_inner b ≡ true → is_solid b ≡ true
inner_solid b h = grind (arith, nat_tests)

short_solid : (x : List ℕ) → is_short x ≡ true → list_all is_solid x ≡ true
short_solid x h = all_imply is_inner is_solid inner_solid x (short_inner x h)

commas_solid : (x : List ℕ) (xs : List (List ℕ)) → list_all is_solid x ≡ true → list_all (list_all is_solid) xs ≡ true → list_all is_solid (with_commas x xs) ≡ true
commas_solid x [] h g = h
commas_solid x (y ∷ ys) h g =
    let (here, later) = and_parts (list_all is_solid y) (list_all (list_all is_solid) ys) g in
    all_append is_solid x (44 ∷ with_commas y ys) h (commas_solid y ys here later)

all_solid : (xs : List (List ℕ)) → list_all is_short xs ≡ true → list_all (list_all is_solid) xs ≡ true
all_solid [] h = refl
all_solid (x ∷ xs) h =
    let (here, later) = and_parts (is_short x) (list_all is_short xs) h in
    and_from (list_all is_solid x) (list_all (list_all is_solid) xs) (short_solid x here) (all_solid xs later)

value_solid : (v : Value) → IsValue v → list_all is_solid (value_text v) ≡ true
value_solid (alone x) h = short_solid x h
value_solid (listed x xs) h = all_append is_solid (with_commas x xs) (41 ∷ []) (commas_solid x xs (short_solid x h.0) (all_solid xs h.1)) refl

operand_solid : (o : Printed) → IsPrinted o → list_all is_solid (operand_text o) ≡ true
operand_solid o h = all_append is_solid o.key (61 ∷ value_text o.value) (short_solid o.key h.key) (value_solid o.value h.value)

all_operands_solid : (os : List Printed) → ArePrinted os → list_all (list_all is_solid) (map operand_text os) ≡ true
all_operands_solid [] h = refl
all_operands_solid (o ∷ os) h = and_from (list_all is_solid (operand_text o)) (list_all (list_all is_solid) (map operand_text os)) (operand_solid o h.0) (all_operands_solid os h.1)

pub operands_solid : (o : Printed) (os : List Printed) → ArePrinted (o ∷ os) → list_all is_solid (operands_text o os) ≡ true
operands_solid o os h = commas_solid (operand_text o) (map operand_text os) (operand_solid o h.0) (all_operands_solid os h.1)

-- ---- runs between commas

-- runs of 1 to 60 bytes, behind so many bytes of the first
abbrev pub runs : ℕ → List ℕ → Bool
runs k [] = nat_lt 0 k && nat_le k 60
runs k (b ∷ rest) = cond (b == 44) (nat_le k 59 && runs 0 rest) (runs (suc k) rest)

no_comma : (b : ℕ) → is_inner b ≡ true → (b == 44) ≡ false
no_comma b h = grind (arith, nat_tests)

runs_over : (x rest : List ℕ) (k : ℕ) → list_all is_inner x ≡ true → runs k (x ++ rest) ≡ runs (k + length x) rest
runs_over [] rest k h = let e : k + 0 ≡ k = omega arith in ap (λ (n : ℕ). runs n rest) (sym e)
runs_over (b ∷ x) rest k h =
    let (here, later) = and_parts (is_inner b) (list_all is_inner x) h in
    let e : suc k + length x ≡ k + suc (length x) = omega arith in
    rw (no_comma b here) (runs_over x rest (suc k) later ∙ ap (λ (n : ℕ). runs n rest) e)

-- a text that may stand behind an operand
abbrev Ends : List ℕ → Type 0
Ends rest = (k : ℕ) → 0 < k → k ≤ 59 → runs k rest ≡ true

ends_nil : Ends []
ends_nil k some few = and_from (nat_lt 0 k) (nat_le k 60) (lt-ltb 0 k some) (le-leb k 60 (omega arith))

ends_comma : (more : List ℕ) → runs 0 more ≡ true → Ends (44 ∷ more)
ends_comma more h k some few = and_from (nat_le k 59) (runs 0 more) (le-leb k 59 few) h

runs_list : (x : List ℕ) (xs : List (List ℕ)) (rest : List ℕ) (k : ℕ) → is_short x ≡ true → list_all is_short xs ≡ true → k ≤ 30 → Ends rest → runs k (with_commas x xs ++ 41 ∷ rest) ≡ true
runs_list x [] rest k h g few ends =
    let size = short_length x h in
    runs_over x (41 ∷ rest) k (short_inner x h) ∙ ends (suc (k + length x)) (omega arith) (omega (arith, size))
runs_list x (y ∷ ys) rest k h g few ends =
    let (here, later) = and_parts (is_short y) (list_all is_short ys) g in
    let size = short_length x h in
    ap (runs k) (append_assoc x (44 ∷ with_commas y ys) (41 ∷ rest)) ∙ runs_over x (44 ∷ (with_commas y ys ++ 41 ∷ rest)) k (short_inner x h)
    ∙ and_from (nat_le (k + length x) 59) (runs 0 (with_commas y ys ++ 41 ∷ rest)) (le-leb (k + length x) 59 (omega (arith, size))) (runs_list y ys rest 0 here later (omega arith) ends)

runs_value : (v : Value) (rest : List ℕ) (k : ℕ) → IsValue v → 0 < k → k ≤ 29 → Ends rest → runs k (value_text v ++ rest) ≡ true
runs_value (alone x) rest k h some few ends =
    let size = short_length x h in
    runs_over x rest k (short_inner x h) ∙ ends (k + length x) (omega arith) (omega (arith, size))
runs_value (listed x xs) rest k h some few ends = ap (runs (suc k)) (append_assoc (with_commas x xs) (41 ∷ []) rest) ∙ runs_list x xs rest (suc k) h.0 h.1 (omega arith) ends

runs_operand : (o : Printed) (rest : List ℕ) → IsPrinted o → Ends rest → runs 0 (operand_text o ++ rest) ≡ true
runs_operand o rest h ends =
    let size = short_length o.key h.key in
    ap (runs 0) (append_assoc o.key (61 ∷ value_text o.value) rest) ∙ runs_over o.key (61 ∷ (value_text o.value ++ rest)) 0 (short_inner o.key h.key)
    ∙ runs_value o.value rest (suc (0 + length o.key)) h.value (omega arith) (omega (arith, size)) ends

pub operands_run : (o : Printed) (os : List Printed) → ArePrinted (o ∷ os) → runs 0 (operands_text o os) ≡ true
operands_run o [] h = ap (runs 0) (sym (append-nil (operand_text o))) ∙ runs_operand o [] h.0 ends_nil
operands_run o (p ∷ os) h = runs_operand o (44 ∷ operands_text p os) h.0 (ends_comma (operands_text p os) (operands_run p os h.1))
