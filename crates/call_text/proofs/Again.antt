-- What is spelled is read: names, words, values and operators.
use Rattle.hal_base.specs.Reading.{◌>>=◌}
use Rattle.std.proofs.Common.{◌≡◌, ℕ, suc, ◌<◌, Bool, true, false, ◌==◌, List, [], ◌∷◌, ◌++◌, length, map, Ok, refl, sym, ap, ◌∙◌, append_assoc, arith}
use Rattle.std.specs.List.{list_all, flat_map}
use Rattle.std.proofs.lemmas.Bool.{eqb-true}
use Rattle.std.proofs.lemmas.Bool.Decides.{nat_tests}
use Rattle.hal_base.specs.Name.{is_name, upper}
use Rattle.call_text.specs.declared.line.Value.{Value}
use Rattle.call_text.specs.declared.line.Value.TheVariants.{Text, Hex}
use Rattle.call_text.specs.Words.{is_blank, past, in_word, is_word}
use Rattle.call_text.specs.Printing.{doubled}
use Rattle.call_text.specs.Spelling.{IsGap, SpellsName, SpellsWord, SpellsPairs, SpellsValue}
use Rattle.call_text.specs.Reading.{name_at, word_at, text_at, pairs_at, hex_at, value_at}
use Rattle.call_text.proofs.Loops.{onto}
use Rattle.call_text.proofs.Runs.{Stops, past_run, take_run, name_bytes, word_bytes, in_words}

pub name_again : (text name rest : List ℕ) → SpellsName text name → Stops in_word rest → name_at (text ++ rest) ≡ Ok (name, rest)
unfolding name_at
name_again text name rest h stops =
    let all : list_all in_word text ≡ true = in_words text (name_bytes (map upper text) (ap is_name h.spelled ∙ h.is)) in
    rw (take_run in_word text rest all stops, past_run in_word text rest all stops, h.spelled, h.is) refl

pub word_again : (text word rest : List ℕ) → SpellsWord text word → Stops in_word rest → word_at (text ++ rest) ≡ Ok (word, rest)
unfolding word_at
word_again text word rest h stops =
    let all : list_all in_word text ≡ true = in_words text (word_bytes (map upper text) (ap is_word h.spelled ∙ h.is)) in
    rw (take_run in_word text rest all stops, past_run in_word text rest all stops, h.spelled, h.is) refl

-- ---- blanks

pub past_gap : (gap rest : List ℕ) → IsGap gap → Stops is_blank rest → past is_blank (gap ++ rest) ≡ rest
past_gap gap rest h stops = past_run is_blank gap rest h stops

-- ---- text

abbrev is_quote : ℕ → Bool
is_quote b = b == 39

text_plain : (b : ℕ) (tail : List ℕ) → (b == 39) ≡ false → text_at (b ∷ tail) ≡ onto b (text_at tail)
unfolding text_at
text_plain b [] h = rw h refl
text_plain b (c ∷ tail) h = rw h refl

text_closed : (rest : List ℕ) → Stops is_quote rest → text_at (39 ∷ rest) ≡ Ok ([], rest)
unfolding text_at
text_closed [] stops = refl
text_closed (c ∷ rest) stops = rw stops refl

text_quotes : (tail : List ℕ) → text_at (39 ∷ 39 ∷ tail) ≡ onto 39 (text_at tail)
unfolding text_at
text_quotes tail = refl

text_byte : (b : ℕ) (tail : List ℕ) → text_at (doubled b ++ tail) ≡ onto b (text_at tail)
text_byte b tail = by_case (b == 39) refl
  where
    by_case : (v : Bool) → (b == 39) ≡ v → text_at (doubled b ++ tail) ≡ onto b (text_at tail)
    by_case true e =
        let is : b ≡ 39 = eqb-true b 39 e in
        rw is (text_quotes tail)
    by_case false e = rw e (text_plain b tail e)

pub text_again : (bytes rest : List ℕ) → Stops is_quote rest → text_at (flat_map doubled bytes ++ 39 ∷ rest) ≡ Ok (bytes, rest)
text_again [] rest stops = text_closed rest stops
text_again (b ∷ bytes) rest stops =
    ap text_at (append_assoc (doubled b) (flat_map doubled bytes) (39 ∷ rest)) ∙ text_byte b (flat_map doubled bytes ++ 39 ∷ rest) ∙ rw (text_again bytes rest stops) refl

-- ---- hexadecimal

pairs_closed : (rest : List ℕ) → pairs_at (39 ∷ rest) ≡ Ok ([], rest)
unfolding pairs_at
pairs_closed [] = refl
pairs_closed (c ∷ rest) = refl

pairs_again : (digits bytes rest : List ℕ) → SpellsPairs digits bytes → pairs_at (digits ++ 39 ∷ rest) ≡ Ok (bytes, rest)
unfolding pairs_at
pairs_again [] [] rest h = pairs_closed rest
pairs_again [] (x ∷ bytes) rest h = absurd h
pairs_again (a ∷ []) bytes rest h = absurd h
pairs_again (a ∷ b ∷ digits) [] rest h = absurd h
pairs_again (a ∷ b ∷ digits) (x ∷ bytes) rest h = rw (h.0, h.1, pairs_again digits bytes rest h.3, h.2) refl

hex_again : (digits bytes rest : List ℕ) → 0 < length bytes → SpellsPairs digits bytes → hex_at (digits ++ 39 ∷ rest) ≡ Ok (bytes, rest)
unfolding hex_at
hex_again digits [] rest some h = absurd (omega arith)
hex_again digits (x ∷ bytes) rest some h =
    let no : (suc (length bytes) == 0) ≡ false = grind (arith, nat_tests) in
    rw (pairs_again digits (x ∷ bytes) rest h, no) refl

-- ---- values

value_text : (tail : List ℕ) → value_at (39 ∷ tail) ≡ (text_at tail >>= λ read. Ok (Text read.0, read.1))
unfolding value_at
value_text [] = refl
value_text (b ∷ tail) = refl

mark_no_quote : (mark : ℕ) → upper mark ≡ 88 → (mark == 39) ≡ false
mark_no_quote mark h = by_case (mark == 39) refl
  where
    by_case : (v : Bool) → (mark == 39) ≡ v → v ≡ false
    by_case true e =
        let is : mark ≡ 39 = eqb-true mark 39 e in
        let no : 39 ≡ 88 = ap upper (sym is) ∙ h in
        absurd (omega (arith, no))
    by_case false e = refl

value_hex : (mark : ℕ) (tail : List ℕ) → upper mark ≡ 88 → value_at (mark ∷ 39 ∷ tail) ≡ (hex_at tail >>= λ read. Ok (Hex read.0, read.1))
unfolding value_at
value_hex mark tail h = rw (mark_no_quote mark h, h) refl

pub value_again : (text : List ℕ) (value : Value) (rest : List ℕ) → SpellsValue text value → Stops is_quote rest → value_at (text ++ rest) ≡ Ok (value, rest)
value_again text (Text bytes) rest h stops =
    let regrouped : text ++ rest ≡ 39 ∷ (flat_map doubled bytes ++ 39 ∷ rest) = ap (λ (t : List ℕ). t ++ rest) h.0 ∙ ap (λ (t : List ℕ). 39 ∷ t) (append_assoc (flat_map doubled bytes) (39 ∷ []) rest) in
    ap value_at regrouped ∙ value_text (flat_map doubled bytes ++ 39 ∷ rest) ∙ rw (text_again bytes rest stops) refl
value_again text (Hex bytes) rest h stops =
    let regrouped : text ++ rest ≡ h.mark ∷ 39 ∷ (h.digits ++ 39 ∷ rest) = ap (λ (t : List ℕ). t ++ rest) h.whole ∙ ap (λ (t : List ℕ). h.mark ∷ 39 ∷ t) (append_assoc h.digits (39 ∷ []) rest) in
    ap value_at regrouped ∙ value_hex h.mark (h.digits ++ 39 ∷ rest) h.mark_is ∙ rw (hex_again h.digits bytes rest h.some h.pairs) refl
