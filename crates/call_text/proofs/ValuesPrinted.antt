-- What is printed spells what was printed: names, words, values and operators.
use Rattle.hal_base.specs.Bytes.{is_printable}
use Rattle.std.proofs.Common.{◌≡◌, ℕ, ◌+◌, ◌*◌, ◌/◌, ◌%◌, ◌<◌, Bool, true, false, cond, ◌==◌, List, [], ◌∷◌, ◌++◌, map, refl, ◌∙◌, arith}
use Rattle.std.specs.List.{list_all, flat_map}
use Rattle.std.proofs.lemmas.List.Folds.{list_all-append}
use Rattle.hal_base.specs.Name.{is_name_byte, upper}
use Rattle.call_text.specs.Words.{is_hex, hex_value}
use Rattle.call_text.specs.declared.line.Value.{Value}
use Rattle.call_text.specs.declared.line.Value.TheVariants.{Text, Hex}
use Rattle.call_text.specs.Printing.{doubled, quoted, hex_digit, hex_pair, in_hex, printed_value}
use Rattle.call_text.specs.Printed.{bytes_of}
use Rattle.call_text.specs.Plain.{plain_value}
use Rattle.call_text.specs.Spelling.{SpellsName, SpellsWord, SpellsPairs, SpellsHex, SpellsValue}
use Rattle.call_text.proofs.Runs.{both, all_weaker, name_bytes, word_bytes}

abbrev pub Prints : List ℕ → Type 0
Prints text = list_all is_printable text ≡ true

pub prints_both : (a b : List ℕ) → Prints a → Prints b → Prints (a ++ b)
prints_both a b p q = list_all-append is_printable a b ∙ rw (p, q) refl

-- ---- names and words

name_byte_prints : (b : ℕ) → is_name_byte b ≡ true → is_printable b ≡ true
name_byte_prints b h = grind (arith, h)

upper_same : (b : ℕ) → is_name_byte b ≡ true → upper b ≡ b
upper_same b h = grind (arith, h)

pub map_same : (text : List ℕ) → list_all is_name_byte text ≡ true → map upper text ≡ text
map_same [] h = refl
map_same (b ∷ text) h =
    let p = both (is_name_byte b) (list_all is_name_byte text) h in
    rw (upper_same b p.0, map_same text p.1) refl

pub name_spells : (text name : List ℕ) → SpellsName text name → SpellsName name name
name_spells text name h = record { spelled = map_same name (name_bytes name h.is); is = h.is }

pub name_prints : (text name : List ℕ) → SpellsName text name → Prints name
name_prints text name h = all_weaker is_name_byte is_printable name_byte_prints name (name_bytes name h.is)

pub word_spells : (text word : List ℕ) → SpellsWord text word → SpellsWord word word
word_spells text word h = record { spelled = map_same word (word_bytes word h.is); is = h.is }

pub word_prints : (text word : List ℕ) → SpellsWord text word → Prints word
word_prints text word h = all_weaker is_name_byte is_printable name_byte_prints word (word_bytes word h.is)

-- ---- values

hex_small : (b : ℕ) → is_hex b ≡ true → hex_value b < 16
hex_small b h = grind (arith, h)

digit_hex : (n : ℕ) → n < 16 → is_hex (hex_digit n) ≡ true
digit_hex n h = grind (arith, h)

digit_value : (n : ℕ) → n < 16 → hex_value (hex_digit n) ≡ n
digit_value n h = grind (arith, h)

digit_prints : (n : ℕ) → n < 16 → is_printable (hex_digit n) ≡ true
digit_prints n h = grind (arith, h)

pairs_printed : (digits bytes : List ℕ) → SpellsPairs digits bytes → SpellsPairs (flat_map hex_pair bytes) bytes × Prints (flat_map hex_pair bytes)
pairs_printed [] [] h = (tt, refl)
pairs_printed [] (x ∷ bytes) h = absurd h
pairs_printed (a ∷ []) bytes h = absurd h
pairs_printed (a ∷ b ∷ digits) [] h = absurd h
pairs_printed (a ∷ b ∷ digits) (x ∷ bytes) h =
    let small : x < 256 = omega (arith, hex_small a h.0, hex_small b h.1, h.2) in
    let high : x / 16 < 16 = omega arith in
    let low : x % 16 < 16 = omega arith in
    let is : x ≡ 16 * hex_value (hex_digit (x / 16)) + hex_value (hex_digit (x % 16)) = omega (arith, digit_value (x / 16) high, digit_value (x % 16) low) in
    let ih = pairs_printed digits bytes h.3 in
    ((digit_hex (x / 16) high, digit_hex (x % 16) low, is, ih.0), rw (digit_prints (x / 16) high, digit_prints (x % 16) low) ih.1)

doubled_prints : (b : ℕ) → is_printable b ≡ true → Prints (doubled b)
doubled_prints b h = by_case (b == 39) refl
  where
    by_case : (v : Bool) → (b == 39) ≡ v → Prints (doubled b)
    by_case true e = rw e refl
    by_case false e = rw (e, h) refl

quoted_prints : (bytes : List ℕ) → Prints bytes → Prints (flat_map doubled bytes)
quoted_prints [] h = refl
quoted_prints (b ∷ bytes) h =
    let p = both (is_printable b) (list_all is_printable bytes) h in
    prints_both (doubled b) (flat_map doubled bytes) (doubled_prints b p.0) (quoted_prints bytes p.1)

pub record PrintsValue (text : List ℕ) (value : Value) : Type 0 where
  pub spells : SpellsValue text value
  pub prints : Prints text

text_printed : (bytes : List ℕ) → Prints bytes → PrintsValue (quoted bytes) (Text bytes)
text_printed bytes h = record {
  spells = (refl, h);
  prints = prints_both (flat_map doubled bytes) (39 ∷ []) (quoted_prints bytes h) refl;
}

hex_printed : (text bytes : List ℕ) → SpellsHex text bytes → PrintsValue (in_hex bytes) (Hex bytes)
hex_printed text bytes h =
    let p = pairs_printed h.digits bytes h.pairs in
    record {
      spells = record { mark = 88; digits = flat_map hex_pair bytes; whole = refl; mark_is = refl; some = h.some; pairs = p.0 };
      prints = prints_both (flat_map hex_pair bytes) (39 ∷ []) p.1 refl;
    }

pub value_printed : (text : List ℕ) (value : Value) → SpellsValue text value → PrintsValue (printed_value (bytes_of value)) (plain_value value)
unfolding printed_value
value_printed text (Text bytes) h = rw (h.1) (text_printed bytes h.1)
value_printed text (Hex bytes) h = by_case (list_all is_printable bytes) refl
  where
    by_case : (v : Bool) → list_all is_printable bytes ≡ v → PrintsValue (cond (list_all is_printable bytes) (quoted bytes) (in_hex bytes)) (cond (list_all is_printable bytes) (Text bytes) (Hex bytes))
    by_case true e = rw e (text_printed bytes e)
    by_case false e = rw e (hex_printed text bytes h)
