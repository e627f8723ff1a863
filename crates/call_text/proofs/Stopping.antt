-- What comes next, and which runs it stops.
use Rattle.std.proofs.Common.{◌≡◌, ℕ, ◌<◌, ◌||◌, Bool, true, false, ◌==◌, List, [], ◌∷◌, ◌++◌, length, map, refl, sym, ap, ◌∙◌, arith}
use Rattle.std.specs.List.{list_all}
use Rattle.std.proofs.lemmas.Bool.{eqb-true}
use Rattle.hal_base.specs.Name.{upper}
use Rattle.call_text.specs.declared.line.Value.{Value}
use Rattle.call_text.specs.declared.line.Value.TheVariants.{Text, Hex}
use Rattle.call_text.specs.Words.{is_blank, in_word}
use Rattle.call_text.specs.Printed.{is_sign}
use Rattle.call_text.specs.Spelling.{IsGap, IsRoom, SpellsValue}
use Rattle.call_text.proofs.Runs.{both, Stops}

-- a byte that passes a test isn't one that fails it
pub other_byte : (k : ℕ) (q : ℕ → Bool) → q k ≡ false → (b : ℕ) → q b ≡ true → (b == k) ≡ false
other_byte k q fails b passes = by_case (b == k) refl
  where
    by_case : (v : Bool) → (b == k) ≡ v → v ≡ false
    by_case true e =
        let is : b ≡ k = eqb-true b k e in
        let no : true ≡ false = sym passes ∙ ap q is ∙ fails in
        absurd cc
    by_case false e = refl

pub sign_no_word : (b : ℕ) → is_sign b ≡ true → in_word b ≡ false
sign_no_word b h = by_case (b == 61) (b == 60) (b == 62) (b == 33) refl refl refl refl h
  where
    by_case : (p q r s : Bool) → (b == 61) ≡ p → (b == 60) ≡ q → (b == 62) ≡ r → (b == 33) ≡ s → (p || q || r || s) ≡ true → in_word b ≡ false
    by_case true q r s ep eq er es e = rw (eqb-true b 61 ep) refl
    by_case false true r s ep eq er es e = rw (eqb-true b 60 eq) refl
    by_case false false true s ep eq er es e = rw (eqb-true b 62 er) refl
    by_case false false false true ep eq er es e = rw (eqb-true b 33 es) refl
    by_case false false false false ep eq er es e = absurd cc

pub no_sign : (q : ℕ → Bool) → q 61 ≡ false → q 60 ≡ false → q 62 ≡ false → q 33 ≡ false → (b : ℕ) → q b ≡ true → is_sign b ≡ false
no_sign q h61 h60 h62 h33 b passes = rw (other_byte 61 q h61 b passes, other_byte 60 q h60 b passes, other_byte 62 q h62 b passes, other_byte 33 q h33 b passes) refl

pub word_no_sign : (b : ℕ) → in_word b ≡ true → is_sign b ≡ false
word_no_sign b h = no_sign in_word refl refl refl refl b h

pub stops_run : (p q : ℕ → Bool) → ((b : ℕ) → q b ≡ true → p b ≡ false) → (run rest : List ℕ) → 0 < length run → list_all q run ≡ true → Stops p (run ++ rest)
stops_run p q other [] rest some all = absurd (omega arith)
stops_run p q other (b ∷ run) rest some all = other b (both (q b) (list_all q run) all).0

pub stops_gap : (p : ℕ → Bool) → p 32 ≡ false → (gap rest : List ℕ) → IsGap gap → Stops p rest → Stops p (gap ++ rest)
stops_gap p blank [] rest h stops = stops
stops_gap p blank (b ∷ gap) rest h stops = ap p (eqb-true b 32 (both (b == 32) (list_all is_blank gap) h).0) ∙ blank

pub stops_room : (p : ℕ → Bool) → p 32 ≡ false → (room rest : List ℕ) → IsRoom room → Stops p (room ++ rest)
stops_room p blank [] rest h = absurd (omega (arith, h.some))
stops_room p blank (b ∷ room) rest h = ap p (eqb-true b 32 (both (b == 32) (list_all is_blank room) h.blanks).0) ∙ blank

-- at the end of the line
pub stops_end : (p : ℕ → Bool) → p 32 ≡ false → (gap : List ℕ) → IsGap gap → Stops p gap
stops_end p blank [] h = tt
stops_end p blank (b ∷ gap) h = ap p (eqb-true b 32 (both (b == 32) (list_all is_blank gap) h).0) ∙ blank

map_some : (text : List ℕ) → 0 < length (map upper text) → 0 < length text
map_some [] h = absurd (omega arith)
map_some (b ∷ text) h = omega arith

pub word_blank : (b : ℕ) → in_word b ≡ true → is_blank b ≡ false
word_blank b h = other_byte 32 in_word refl b h

abbrev is_mark : ℕ → Bool
is_mark b = upper b == 88

mark_is_true : (b : ℕ) → upper b ≡ 88 → is_mark b ≡ true
mark_is_true b h = rw h refl

pub value_no_blank : (text : List ℕ) (value : Value) (rest : List ℕ) → SpellsValue text value → Stops is_blank (text ++ rest)
value_no_blank [] (Text bytes) rest h = let e = h.0 in absurd cc
value_no_blank (b ∷ text) (Text bytes) rest h =
    let e = h.0 in
    let is : b ≡ 39 = cc in
    rw is refl
value_no_blank [] (Hex bytes) rest h = let e = h.whole in absurd cc
value_no_blank (b ∷ text) (Hex bytes) rest h =
    let e = h.whole in
    let is : b ≡ h.mark = cc in
    rw is (other_byte 32 is_mark refl h.mark (mark_is_true h.mark h.mark_is))

pub value_no_sign : (text : List ℕ) (value : Value) (rest : List ℕ) → SpellsValue text value → Stops is_sign (text ++ rest)
value_no_sign [] (Text bytes) rest h = let e = h.0 in absurd cc
value_no_sign (b ∷ text) (Text bytes) rest h =
    let e = h.0 in
    let is : b ≡ 39 = cc in
    rw is refl
value_no_sign [] (Hex bytes) rest h = let e = h.whole in absurd cc
value_no_sign (b ∷ text) (Hex bytes) rest h =
    let e = h.whole in
    let is : b ≡ h.mark = cc in
    rw is (no_sign is_mark refl refl refl refl h.mark (mark_is_true h.mark h.mark_is))
