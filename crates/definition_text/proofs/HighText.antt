-- High keys and names in quotes, as they are written and read.
use Rattle.std.proofs.Common.{◌≡◌, ℕ, suc, ◌-◌, ◌/◌, ◌%◌, ◌<◌, Bool, true, false, ◌&&◌, ◌==◌, nat_le, nat_lt, List, [], ◌∷◌, ◌++◌, length, map, codes, slice_index, Some, Ok, refl, ap, arith, length-append}
use Rattle.std.proofs.lemmas.Bool.{and_parts, lt-ltb}
use Rattle.std.proofs.lemmas.Bool.Decides.{nat_tests}
use Rattle.std.proofs.Math.Seq.{take-append_seam, get_or-append_seam}
use Rattle.std.specs.List.{list_all}
use Rattle.hex.specs.Hex.{upper_digits, encode_with, encode_upper, hex_digit_value, IsBytes}
use Rattle.hex.proofs.HexLemmas.{IsDigits-upper_digits, decode_of-encode_upper}
use Rattle.hal_base.specs.Name.{upper, is_name_letter, is_name_byte, is_name}
use Rattle.definition_printer.specs.Partitions.{is_plain, high_text}
use Rattle.partition_reader.specs.Values.{is_printable, begins_hex, before_quote, key_of}
use Rattle.definition_text.proofs.Quoted.{is_simple, IsSimple, simple_append}

pub all_imply : (p q : ℕ → Bool) → ((b : ℕ) → p b ≡ true → q b ≡ true) → (s : List ℕ) → list_all p s ≡ true → list_all q s ≡ true
all_imply p q more [] h = refl
all_imply p q more (b ∷ s) h =
    let (here, later) = and_parts (p b) (list_all p s) h in
    rw (more b here) (all_imply p q more s later)

-- ---- names

letter_simple : (b : ℕ) → is_name_letter b ≡ true → is_simple b ≡ true
letter_simple b h = grind (arith, nat_tests)

byte_simple : (b : ℕ) → is_name_byte b ≡ true → is_simple b ≡ true
byte_simple b h = grind (arith, nat_tests)

letter_upper : (b : ℕ) → is_name_letter b ≡ true → upper b ≡ b
letter_upper b h = grind (arith, nat_tests)

byte_upper : (b : ℕ) → is_name_byte b ≡ true → upper b ≡ b
byte_upper b h = grind (arith, nat_tests)

bytes_upper : (s : List ℕ) → list_all is_name_byte s ≡ true → map upper s ≡ s
bytes_upper [] h = refl
bytes_upper (b ∷ s) h =
    let (here, later) = and_parts (is_name_byte b) (list_all is_name_byte s) h in
    rw (byte_upper b here) (ap (λ (xs : List ℕ). b ∷ xs) (bytes_upper s later))

pub name_simple : (name : List ℕ) → is_name name ≡ true → IsSimple name
name_simple [] h = refl
name_simple (b ∷ s) h =
    let (front, short) = and_parts (is_name_letter b && list_all is_name_byte s) (nat_le (length s) 7) h in
    let (first, more) = and_parts (is_name_letter b) (list_all is_name_byte s) front in
    rw (letter_simple b first) (all_imply is_name_byte is_simple byte_simple s more)

pub name_upper : (name : List ℕ) → is_name name ≡ true → map upper name ≡ name
name_upper [] h = refl
name_upper (b ∷ s) h =
    let (front, short) = and_parts (is_name_letter b && list_all is_name_byte s) (nat_le (length s) 7) h in
    let (first, more) = and_parts (is_name_letter b) (list_all is_name_byte s) front in
    rw (letter_upper b first) (ap (λ (xs : List ℕ). b ∷ xs) (bytes_upper s more))

-- ---- high keys

plain_simple : (b : ℕ) → is_plain b ≡ true → is_simple b ≡ true
plain_simple b h = grind (arith, nat_tests)

plain_printable : (b : ℕ) → is_plain b ≡ true → is_printable b ≡ true
plain_printable b h = grind (arith, nat_tests)

digit_simple : (b v : ℕ) → hex_digit_value b ≡ Some v → is_simple b ≡ true
digit_simple b v h = grind (arith, nat_tests)

hex_simple : (s : List ℕ) → IsBytes s → IsSimple (encode_with upper_digits s)
unfolding encode_with
hex_simple [] h = refl
hex_simple (b ∷ s) h =
    let fits : b < 256 = h 0 in
    let high : b / 16 < 16 = omega arith in
    let low : b % 16 < 16 = omega arith in
    let first = digit_simple (slice_index upper_digits (b / 16)) (b / 16) (IsDigits-upper_digits (b / 16) high) in
    let second = digit_simple (slice_index upper_digits (b % 16)) (b % 16) (IsDigits-upper_digits (b % 16) low) in
    rw (first, second) (hex_simple s (λ i. h (suc i)))

text_simple : (v : Bool) (high : List ℕ) → IsBytes high → list_all is_plain high ≡ v → IsSimple (high_text high)
text_simple true high bytes e = rw e (all_imply is_plain is_simple plain_simple high e)
text_simple false high bytes e = rw e (simple_append (codes "X'" ++ encode_upper high) (codes "'") (hex_simple high bytes) refl)

pub high_simple : (high : List ℕ) → IsBytes high → IsSimple (high_text high)
high_simple high bytes = text_simple (list_all is_plain high) high bytes refl

no_mark : (high : List ℕ) → list_all is_plain high ≡ true → begins_hex high ≡ false
no_mark [] h = refl
no_mark (a ∷ []) h = refl
no_mark (a ∷ b ∷ s) h =
    let (here, more) = and_parts (is_plain a) (is_plain b && list_all is_plain s) h in
    let (second, later) = and_parts (is_plain b) (list_all is_plain s) more in
    grind (arith, nat_tests)

pub quote_back : (front : List ℕ) → before_quote (front ++ 39 ∷ []) ≡ Some front
quote_back front =
    let size = length-append front (39 ∷ []) in
    let len : length (front ++ 39 ∷ []) ≡ suc (length front) = omega (arith, size) in
    let less : length (front ++ 39 ∷ []) - 1 ≡ length front = omega (arith, size) in
    let some : nat_lt 0 (length (front ++ 39 ∷ [])) ≡ true = lt-ltb 0 (length (front ++ 39 ∷ [])) (omega (arith, size)) in
    rw (some, less, get_or-append_seam front 39 [] 0, take-append_seam front (39 ∷ [])) refl

read_by : (v : Bool) (place : ℕ) (high : List ℕ) → IsBytes high → 0 < length high → list_all is_plain high ≡ v → key_of place (high_text high) ≡ Ok high
unfolding key_of
read_by true place high bytes some e = rw (e, no_mark high e, all_imply is_plain is_printable plain_printable high e) refl
read_by false place high bytes some e =
    let not_none : (length high == 0) ≡ false = grind (arith, nat_tests) in
    rw (e, quote_back (encode_upper high), decode_of-encode_upper high bytes, not_none) refl

pub high_back : (place : ℕ) (high : List ℕ) → IsBytes high → 0 < length high → key_of place (high_text high) ≡ Ok high
high_back place high bytes some = read_by (list_all is_plain high) place high bytes some refl
