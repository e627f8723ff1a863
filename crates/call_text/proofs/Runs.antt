-- Runs at the front of a text, and what stops them.
use Rattle.std.proofs.Common.{◌≡◌, ℕ, ◌&&◌, ◌||◌, Bool, true, false, nat_le, List, [], ◌∷◌, ◌++◌, length, map, refl, sym, ◌∙◌, arith}
use Rattle.std.specs.List.{list_all, prefix_len, take_while}
use Rattle.std.proofs.lemmas.List.{take_at, drop_at}
use Rattle.std.proofs.lemmas.List.Folds.{list_all-map}
use Rattle.hal_base.specs.Name.{is_name, is_name_byte, is_name_letter, is_digit, upper}
use Rattle.call_text.specs.Words.{past, in_word, is_letter, is_letter_or_digit, is_word}

pub both : (a b : Bool) → (a && b) ≡ true → (a ≡ true) × (b ≡ true)
both true b h = (refl, h)
both false b h = absurd cc

-- nothing that passes comes next
abbrev pub Stops : (ℕ → Bool) → List ℕ → Type 0
Stops test [] = Unit {0}
Stops test (b ∷ rest) = test b ≡ false

pub run_len : (test : ℕ → Bool) (run rest : List ℕ) → list_all test run ≡ true → Stops test rest → prefix_len test (run ++ rest) ≡ length run
run_len test [] [] all stops = refl
run_len test [] (b ∷ rest) all stops = rw stops refl
run_len test (x ∷ run) rest all stops =
    let h = both (test x) (list_all test run) all in
    let ih = run_len test run rest h.1 stops in
    rw h.0 (omega (arith, ih))

pub past_run : (test : ℕ → Bool) (run rest : List ℕ) → list_all test run ≡ true → Stops test rest → past test (run ++ rest) ≡ rest
past_run test run rest all stops = drop_at run rest (prefix_len test (run ++ rest)) (sym (run_len test run rest all stops))

pub take_run : (test : ℕ → Bool) (run rest : List ℕ) → list_all test run ≡ true → Stops test rest → take_while test (run ++ rest) ≡ run
take_run test run rest all stops = take_at run rest (prefix_len test (run ++ rest)) (sym (run_len test run rest all stops))

-- a test that follows from another, along a list
pub all_weaker : (p q : ℕ → Bool) → ((b : ℕ) → p b ≡ true → q b ≡ true) → (xs : List ℕ) → list_all p xs ≡ true → list_all q xs ≡ true
all_weaker p q weaker [] all = refl
all_weaker p q weaker (x ∷ xs) all =
    let h = both (p x) (list_all p xs) all in
    rw (weaker x h.0, all_weaker p q weaker xs h.1) refl

-- ---- words

letter_is_byte : (b : ℕ) → is_name_letter b ≡ true → is_name_byte b ≡ true
letter_is_byte b h = rw h refl

pub name_bytes : (name : List ℕ) → is_name name ≡ true → list_all is_name_byte name ≡ true
name_bytes [] h = absurd cc
name_bytes (b ∷ more) h =
    let outer = both (is_name_letter b && list_all is_name_byte more) (nat_le (length more) 7) h in
    let inner = both (is_name_letter b) (list_all is_name_byte more) outer.0 in
    rw (letter_is_byte b inner.0, inner.1) refl

upper_letter_is_byte : (b : ℕ) → is_letter b ≡ true → is_name_byte b ≡ true
upper_letter_is_byte b h = rw h refl

letter_or_digit_is_byte : (b : ℕ) → is_letter_or_digit b ≡ true → is_name_byte b ≡ true
letter_or_digit_is_byte b h = cases (is_letter b) (is_digit b) refl refl h
  where
    cases : (l d : Bool) → is_letter b ≡ l → is_digit b ≡ d → (l || d) ≡ true → is_name_byte b ≡ true
    cases true d el ed e = upper_letter_is_byte b el
    cases false true el ed e = rw (el, ed) (grind arith)
    cases false false el ed e = absurd cc

pub word_bytes : (word : List ℕ) → is_word word ≡ true → list_all is_name_byte word ≡ true
word_bytes word h = all_weaker is_letter_or_digit is_name_byte letter_or_digit_is_byte word (both _ (list_all is_letter_or_digit word) h).1

pub letters_bytes : (word : List ℕ) → list_all is_letter word ≡ true → list_all is_name_byte word ≡ true
letters_bytes word h = all_weaker is_letter is_name_byte upper_letter_is_byte word h

-- what spells a word has bytes of words
pub in_words : (text : List ℕ) → list_all is_name_byte (map upper text) ≡ true → list_all in_word text ≡ true
in_words text h = sym (list_all-map is_name_byte upper text) ∙ h
