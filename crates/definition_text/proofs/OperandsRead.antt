-- Printed operands read as the operands that they were printed from, and lists as their texts.
use Rattle.std.proofs.Common.{◌≡◌, ℕ, suc, ◌+◌, ◌-◌, ◌<◌, Bool, true, false, ◌==◌, nat_le, cond, List, [], ◌∷◌, ◌++◌, length, map, drop, Some, None, refl, sym, ap, ◌∙◌, arith, append_assoc, append-nil, length-append}
use Rattle.std.proofs.lemmas.Bool.{and_parts, le-leb, ne_eqb}
use Rattle.std.proofs.lemmas.Bool.Decides.{nat_tests}
use Rattle.std.proofs.Math.Seq.{take-append_seam, get_or-append_seam}
use Rattle.std.specs.List.{list_all, onto_first, position_or_len}
use Rattle.hal_base.specs.Name.{upper}
use Rattle.dbd_reader.specs.declared.word.Word.{Word}
use Rattle.dbd_reader.specs.declared.operand.Operand.{Operand}
use Rattle.dbd_reader.specs.Operands.{folded, quoted_behind, depth_behind, parts_here, pieces_from, pieces, is_equal_sign, keyword, operand_in, operands_in, inside, parts}
use Rattle.definition_text.proofs.Printed.{is_solid, is_inner, is_short, Value, alone, listed, with_commas, value_text, Printed, operand_text, operands_text, IsValue, IsPrinted, ArePrinted, short_inner, operands_solid}

-- ---- upper case

solid_upper : (b : ℕ) → is_solid b ≡ true → upper b ≡ b
solid_upper b h = grind (arith, nat_tests)

solid_unquoted : (b : ℕ) → is_solid b ≡ true → (b == 39) ≡ false
solid_unquoted b h = grind (arith, nat_tests)

pub folded_solid : (text : List ℕ) → list_all is_solid text ≡ true → folded false text ≡ text
unfolding folded
folded_solid [] h = refl
folded_solid (b ∷ text) h =
    let (here, later) = and_parts (is_solid b) (list_all is_solid text) h in
    rw (solid_upper b here, solid_unquoted b here) (ap (λ (xs : List ℕ). b ∷ xs) (folded_solid text later))

-- ---- texts that pass from one depth of parentheses to another, and part nothing

abbrev led : List ℕ → List (List ℕ) → List (List ℕ)
led q [] = q ∷ []
led q (p ∷ ps) = (q ++ p) ∷ ps

led_led : (a b : List ℕ) (ps : List (List ℕ)) → led a (led b ps) ≡ led (a ++ b) ps
led_led a b [] = refl
led_led a b (p ∷ ps) = ap (λ (x : List ℕ). x ∷ ps) (sym (append_assoc a b p))

onto_led : (b : ℕ) (ps : List (List ℕ)) → onto_first b ps ≡ led (b ∷ []) ps
onto_led b [] = refl
onto_led b (p ∷ ps) = refl

record Through (d e : ℕ) (text : List ℕ) : Type 0 where
  same : (rest : List ℕ) → pieces_from d false (text ++ rest) ≡ led text (pieces_from e false rest)

through_more : (d e f : ℕ) (a b : List ℕ) → Through d e a → Through e f b → Through d f (a ++ b)
through_more d e f a b h g = record {
  same = λ rest. ap (pieces_from d false) (append_assoc a b rest) ∙ h.same (b ++ rest) ∙ ap (led a) (g.same rest) ∙ led_led a b (pieces_from f false rest);
}

through_open : Through 0 1 (40 ∷ [])
unfolding pieces_from
through_open = record { same = λ rest. onto_led 40 (pieces_from 1 false rest) }

through_close : Through 1 0 (41 ∷ [])
unfolding pieces_from
through_close = record { same = λ rest. onto_led 41 (pieces_from 0 false rest) }

through_comma : Through 1 1 (44 ∷ [])
unfolding pieces_from
through_comma = record { same = λ rest. onto_led 44 (pieces_from 1 false rest) }

through_equal : Through 0 0 (61 ∷ [])
unfolding pieces_from
through_equal = record { same = λ rest. onto_led 61 (pieces_from 0 false rest) }

inner_stays : (d b : ℕ) → is_inner b ≡ true → parts_here d false b ≡ false
inner_stays d b h = grind (arith, nat_tests)

inner_depth : (d b : ℕ) → is_inner b ≡ true → depth_behind d false b ≡ d
inner_depth d b h = grind (arith, nat_tests)

inner_unquoted : (b : ℕ) → is_inner b ≡ true → quoted_behind false b ≡ false
inner_unquoted b h = grind (arith, nat_tests)

led_onto : (b : ℕ) (ps : List (List ℕ)) → led [] (onto_first b ps) ≡ onto_first b ps
led_onto b [] = refl
led_onto b (p ∷ ps) = refl

led_by : (v : Bool) (b : ℕ) (ps qs : List (List ℕ)) → led [] (cond v ([] ∷ ps) (onto_first b qs)) ≡ cond v ([] ∷ ps) (onto_first b qs)
led_by true b ps qs = refl
led_by false b ps qs = led_onto b qs

nonempty_led : (d : ℕ) (rest : List ℕ) → led [] (pieces_from d false rest) ≡ pieces_from d false rest
unfolding pieces_from
nonempty_led d [] = refl
nonempty_led d (b ∷ rest) = led_by (parts_here d false b) b (pieces_from d false rest) (pieces_from (depth_behind d false b) (quoted_behind false b) rest)

inner_same : (d : ℕ) (x : List ℕ) → list_all is_inner x ≡ true → (rest : List ℕ) → pieces_from d false (x ++ rest) ≡ led x (pieces_from d false rest)
unfolding pieces_from
inner_same d [] h rest = sym (nonempty_led d rest)
inner_same d (b ∷ x) h rest =
    let (here, later) = and_parts (is_inner b) (list_all is_inner x) h in
    rw (inner_stays d b here, inner_depth d b here, inner_unquoted b here) (onto_led b (pieces_from d false (x ++ rest)) ∙ ap (led (b ∷ [])) (inner_same d x later rest) ∙ led_led (b ∷ []) x (pieces_from d false rest))

through_inner : (d : ℕ) (x : List ℕ) → is_short x ≡ true → Through d d x
through_inner d x h = record { same = inner_same d x (short_inner x h) }

through_list : (x : List ℕ) (xs : List (List ℕ)) → is_short x ≡ true → list_all is_short xs ≡ true → Through 1 1 (with_commas x xs)
through_list x [] h g = through_inner 1 x h
through_list x (y ∷ ys) h g =
    let (here, later) = and_parts (is_short y) (list_all is_short ys) g in
    through_more 1 1 1 x (44 ∷ with_commas y ys) (through_inner 1 x h) (through_more 1 1 1 (44 ∷ []) (with_commas y ys) through_comma (through_list y ys here later))

through_value : (v : Value) → IsValue v → Through 0 0 (value_text v)
through_value (alone x) h = through_inner 0 x h
through_value (listed x xs) h =
    through_more 0 1 0 (40 ∷ []) (with_commas x xs ++ 41 ∷ []) through_open (through_more 1 1 0 (with_commas x xs) (41 ∷ []) (through_list x xs h.0 h.1) through_close)

through_operand : (o : Printed) → IsPrinted o → Through 0 0 (operand_text o)
through_operand o h =
    through_more 0 0 0 o.key (61 ∷ value_text o.value) (through_inner 0 o.key h.key) (through_more 0 0 0 (61 ∷ []) (value_text o.value) through_equal (through_value o.value h.value))

-- texts that part nothing, behind each other
abbrev AllThrough : List (List ℕ) → Type 0
AllThrough [] = Unit {0}
AllThrough (x ∷ xs) = Through 0 0 x × AllThrough xs

pieces_back : (x : List ℕ) (xs : List (List ℕ)) → AllThrough (x ∷ xs) → pieces (with_commas x xs) ≡ x ∷ xs
unfolding pieces_from
pieces_back x [] h =
    ap (pieces_from 0 false) (sym (append-nil x)) ∙ h.0.same [] ∙ ap (λ (t : List ℕ). t ∷ []) (append-nil x)
pieces_back x (y ∷ ys) h =
    h.0.same (44 ∷ with_commas y ys) ∙ ap (λ (t : List ℕ). t ∷ pieces (with_commas y ys)) (append-nil x) ∙ ap (λ (ts : List (List ℕ)). x ∷ ts) (pieces_back y ys h.1)

all_inner : (xs : List (List ℕ)) → list_all is_short xs ≡ true → AllThrough xs
all_inner [] h = tt
all_inner (x ∷ xs) h =
    let (here, later) = and_parts (is_short x) (list_all is_short xs) h in
    (through_inner 0 x here, all_inner xs later)

all_operands : (os : List Printed) → ArePrinted os → AllThrough (map operand_text os)
all_operands [] h = tt
all_operands (o ∷ os) h = (through_operand o h.0, all_operands os h.1)

-- ---- keyword and value

abbrev pub operand_of : Word → Printed → Operand
operand_of word o = record { key = keyword word o.key; value = Some (value_text o.value) }

inner_unequal : (b : ℕ) → is_inner b ≡ true → (b == 61) ≡ false
inner_unequal b h = grind (arith, nat_tests)

equal_at : (key value : List ℕ) → list_all is_inner key ≡ true → position_or_len is_equal_sign (key ++ 61 ∷ value) ≡ length key
equal_at [] value h = refl
equal_at (b ∷ key) value h =
    let (here, later) = and_parts (is_inner b) (list_all is_inner key) h in
    let more = equal_at key value later in
    rw (inner_unequal b here, more) (let e : 1 + length key ≡ suc (length key) = omega arith in e)

drop_behind : (key value : List ℕ) → drop (length key + 1) (key ++ 61 ∷ value) ≡ value
drop_behind [] value = refl
drop_behind (b ∷ key) value =
    let e : suc (length key) + 1 ≡ suc (length key + 1) = omega arith in
    ap (λ (n : ℕ). drop n (b ∷ (key ++ 61 ∷ value))) e ∙ drop_behind key value

operand_back : (word : Word) (o : Printed) → IsPrinted o → operand_in word (operand_text o) ≡ operand_of word o
unfolding operand_in
operand_back word o h =
    let value : List ℕ = value_text o.value in
    let at : position_or_len is_equal_sign (operand_text o) ≡ length o.key = equal_at o.key value (short_inner o.key h.key) in
    let size = length-append o.key (61 ∷ value) in
    let some : (length o.key == length (operand_text o)) ≡ false = ne_eqb (length o.key) (length (operand_text o)) (λ e. omega (arith, e, size)) in
    rw (at, some, take-append_seam o.key (61 ∷ value), drop_behind o.key value) refl

operands_map : (word : Word) (os : List Printed) → ArePrinted os → map (operand_in word) (map operand_text os) ≡ map (operand_of word) os
operands_map word [] h = refl
operands_map word (o ∷ os) h = rw (operand_back word o h.0) (ap (λ (xs : List Operand). operand_of word o ∷ xs) (operands_map word os h.1))

text_some : (x : List ℕ) (xs : List (List ℕ)) → 0 < length x → (length (with_commas x xs) == 0) ≡ false
text_some x [] some = ne_eqb (length x) 0 (λ e. omega (arith, e, some))
text_some x (y ∷ ys) some = let size = length-append x (44 ∷ with_commas y ys) in ne_eqb (length (x ++ 44 ∷ with_commas y ys)) 0 (λ e. omega (arith, e, some, size))

pub operands_back : (word : Word) (o : Printed) (os : List Printed) → ArePrinted (o ∷ os) → operands_in word (operands_text o os) ≡ operand_of word o ∷ map (operand_of word) os
unfolding operands_in
operands_back word o os h =
    let size = length-append o.key (61 ∷ value_text o.value) in
    rw (text_some (operand_text o) (map operand_text os) (omega (arith, size)))
    (ap (λ (t : List ℕ). map (operand_in word) (pieces t)) (folded_solid (operands_text o os) (operands_solid o os h))
    ∙ ap (map (operand_in word)) (pieces_back (operand_text o) (map operand_text os) (all_operands (o ∷ os) h))
    ∙ operands_map word (o ∷ os) h)

-- ---- lists

inside_back : (text : List ℕ) → inside (40 ∷ (text ++ 41 ∷ [])) ≡ Some text
unfolding inside
inside_back text =
    let size = length-append text (41 ∷ []) in
    let value : List ℕ = 40 ∷ (text ++ 41 ∷ []) in
    let two : nat_le 2 (length value) ≡ true = le-leb 2 (length value) (omega (arith, size)) in
    let last : length value - 1 ≡ suc (length text) = omega (arith, size) in
    let most : length value - 2 ≡ length text = omega (arith, size) in
    rw (two, last, most, get_or-append_seam text 41 [] 0, take-append_seam text (41 ∷ [])) refl

inside_by : (v : Bool) (b : ℕ) (x : List ℕ) → nat_le 2 (length (b ∷ x)) ≡ v → (b == 40) ≡ false → inside (b ∷ x) ≡ None
unfolding inside
inside_by true b x e other = rw (e, other) refl
inside_by false b x e other = rw e refl

pub inside_none : (x : List ℕ) → list_all is_inner x ≡ true → inside x ≡ None
unfolding inside
inside_none [] h = refl
inside_none (b ∷ x) h =
    let (here, later) = and_parts (is_inner b) (list_all is_inner x) h in
    inside_by (nat_le 2 (length (b ∷ x))) b x refl (grind (arith, nat_tests))

pub inside_list : (x : List ℕ) (xs : List (List ℕ)) → inside (value_text (listed x xs)) ≡ Some (with_commas x xs)
inside_list x xs = inside_back (with_commas x xs)

pub list_back : (x : List ℕ) (xs : List (List ℕ)) → IsValue (listed x xs) → pieces (with_commas x xs) ≡ x ∷ xs
list_back x xs h = pieces_back x xs (through_inner 0 x h.0, all_inner xs h.1)

pub parts_alone : (x : List ℕ) → is_short x ≡ true → parts x ≡ x ∷ []
unfolding parts
parts_alone x h = rw (inside_none x (short_inner x h)) refl

pub parts_list : (x : List ℕ) (xs : List (List ℕ)) → IsValue (listed x xs) → parts (value_text (listed x xs)) ≡ x ∷ xs
unfolding parts
parts_list x xs h = rw (inside_list x xs) (list_back x xs h)
