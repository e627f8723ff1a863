-- What is spelled is read: SSAs, and what stands behind them.
use Rattle.std.proofs.Common.{◌≡◌, ℕ, zero, suc, ◌≤◌, ◌&&◌, Bool, true, false, ◌==◌, List, [], ◌∷◌, ◌++◌, length, Option, Some, None, Ok, refl, sym, ap, subst, ◌∙◌, append_assoc, arith, length-append}
use Rattle.std.specs.List.{list_all}
use Rattle.std.proofs.lemmas.List.{append-nil}
use Rattle.hal_base.specs.Name.{is_name, is_name_byte}
use Rattle.call_text.specs.declared.line.Value.{Value}
use Rattle.call_text.specs.declared.line.Clause.{Clause}
use Rattle.call_text.specs.declared.line.Ssa.{Ssa}
use Rattle.call_text.specs.Words.{is_blank, past, in_word, begins_with}
use Rattle.call_text.specs.Spelling.{IsGap, IsRoom, SpellsName, SpellsQualification, SpellsCodes, SpellsSsa, SpellsSsas, SpellsGiven}
use Rattle.call_text.specs.Reading.{begins_blank, codes_at, qualification_at, ssa_at, begins_word, begins_ssa, ssas_at, given_at}
use Rattle.call_text.proofs.Runs.{both, Stops, name_bytes, in_words}
use Rattle.call_text.proofs.Stopping.{other_byte, stops_gap, stops_room, stops_end, word_blank, value_no_blank}
use Rattle.call_text.proofs.Again.{name_again, word_again, past_gap, value_again}
use Rattle.call_text.proofs.ClausesAgain.{is_quote, room_begins, clauses_again}

abbrev is_star : ℕ → Bool
is_star b = b == 42

-- what may stand behind an SSA
pub record Behind (rest : List ℕ) : Type 0 where
  pub no_word : Stops in_word rest
  pub no_star : Stops is_star rest
  pub no_parenthesis : begins_with 40 (past is_blank rest) ≡ false

pub name_begins : (text name rest : List ℕ) → SpellsName text name → begins_word (text ++ rest) ≡ true
name_begins [] name rest h =
    let none_there : is_name [] ≡ true = subst (λ (n : List ℕ). is_name n ≡ true) (sym h.spelled) h.is in
    absurd cc
name_begins (b ∷ text) name rest h =
    let all : list_all in_word (b ∷ text) ≡ true = in_words (b ∷ text) (subst (λ (n : List ℕ). list_all is_name_byte n ≡ true) (sym h.spelled) (name_bytes name h.is)) in
    (both (in_word b) (list_all in_word text) all).0

-- a word byte is no parenthesis
word_no_parenthesis : (text : List ℕ) → begins_word text ≡ true → begins_with 40 text ≡ false
word_no_parenthesis [] h = refl
word_no_parenthesis (b ∷ text) h = other_byte 40 in_word refl b h

-- ---- the parts of an SSA

qualification_again : (text : List ℕ) (clauses : List Clause) (rest : List ℕ) → SpellsQualification text clauses → begins_with 40 (past is_blank rest) ≡ false → qualification_at (text ++ rest) ≡ Ok (clauses, rest)
unfolding qualification_at
qualification_again text [] rest h none_there =
    let same : text ++ rest ≡ rest = ap (λ (t : List ℕ). t ++ rest) h in
    rw (same, none_there) refl
qualification_again text (first ∷ more) rest h none_there =
    let inside = h.1 in
    let regrouped : text ++ rest ≡ h.0 ++ (40 ∷ (inside ++ rest)) = ap (λ (t : List ℕ). t ++ rest) h.4 ∙ append_assoc h.0 (40 ∷ inside) rest in
    let skipped : past is_blank (text ++ rest) ≡ 40 ∷ (inside ++ rest) = ap (past is_blank) regrouped ∙ past_gap h.0 (40 ∷ (inside ++ rest)) h.2 refl in
    let fits : length inside ≤ length (text ++ rest) = omega (arith, ap length regrouped, length-append h.0 (40 ∷ (inside ++ rest)), length-append inside rest) in
    rw (skipped) (clauses_again (length (text ++ rest)) inside false first more rest h.3 fits)

codes_again : (text codes rest : List ℕ) → SpellsCodes text codes → Stops in_word rest → Stops is_star rest → codes_at (text ++ rest) ≡ Ok (codes, rest)
unfolding codes_at
codes_again text [] rest h no_word no_star = ap (λ (t : List ℕ). codes_at (t ++ rest)) h ∙ none rest no_star
  where
    none : (rest : List ℕ) → Stops is_star rest → codes_at rest ≡ Ok ([], rest)
    none [] stops = refl
    none (b ∷ rest) stops = rw stops refl
codes_again text (code ∷ more) rest h no_word no_star =
    ap (λ (t : List ℕ). codes_at (t ++ rest)) h.2 ∙ word_again h.0 (code ∷ more) rest h.1 no_word

codes_stop : (p : ℕ → Bool) → p 42 ≡ false → (text codes rest : List ℕ) → SpellsCodes text codes → Stops p rest → Stops p (text ++ rest)
codes_stop p star text [] rest h stops = subst (λ (t : List ℕ). Stops p (t ++ rest)) (sym h) stops
codes_stop p star text (code ∷ more) rest h stops = subst (λ (t : List ℕ). Stops p (t ++ rest)) (sym h.2) star

qualification_stop : (p : ℕ → Bool) → p 32 ≡ false → p 40 ≡ false → (text : List ℕ) (clauses : List Clause) (rest : List ℕ) → SpellsQualification text clauses → Stops p rest → Stops p (text ++ rest)
qualification_stop p blank open_is text [] rest h stops = subst (λ (t : List ℕ). Stops p (t ++ rest)) (sym h) stops
qualification_stop p blank open_is text (first ∷ more) rest h stops =
    let regrouped : text ++ rest ≡ h.0 ++ (40 ∷ (h.1 ++ rest)) = ap (λ (t : List ℕ). t ++ rest) h.4 ∙ append_assoc h.0 (40 ∷ h.1) rest in
    subst (Stops p) (sym regrouped) (stops_gap p blank h.0 (40 ∷ (h.1 ++ rest)) h.2 open_is)

pub ssa_again : (text : List ℕ) (ssa : Ssa) (rest : List ℕ) → SpellsSsa text ssa → Behind rest → ssa_at (text ++ rest) ≡ Ok (ssa, rest)
unfolding ssa_at
ssa_again text ssa rest h next =
    let tail = h.clauses ++ rest in
    let regrouped : text ++ rest ≡ h.seg ++ (h.code ++ tail) = ap (λ (t : List ℕ). t ++ rest) h.whole ∙ simp append_assoc in
    let no_word : Stops in_word tail = qualification_stop in_word refl refl h.clauses ssa.clauses rest h.clauses_is next.no_word in
    let no_star : Stops is_star tail = qualification_stop is_star refl refl h.clauses ssa.clauses rest h.clauses_is next.no_star in
    ap ssa_at regrouped ∙ rw (name_again h.seg ssa.seg (h.code ++ tail) h.seg_is (codes_stop in_word refl h.code ssa.codes tail h.code_is no_word), codes_again h.code ssa.codes tail h.code_is no_word no_star, qualification_again h.clauses ssa.clauses rest h.clauses_is next.no_parenthesis) refl

ssa_begins : (text : List ℕ) (ssa : Ssa) (rest : List ℕ) → SpellsSsa text ssa → begins_word (text ++ rest) ≡ true
ssa_begins text ssa rest h =
    let regrouped : text ++ rest ≡ h.seg ++ ((h.code ++ h.clauses) ++ rest) = ap (λ (t : List ℕ). t ++ rest) h.whole ∙ append_assoc h.seg (h.code ++ h.clauses) rest in
    ap begins_word regrouped ∙ name_begins h.seg ssa.seg ((h.code ++ h.clauses) ++ rest) h.seg_is

word_stops_blank : (text : List ℕ) → begins_word text ≡ true → Stops is_blank text
word_stops_blank [] h = absurd cc
word_stops_blank (b ∷ text) h = word_blank b h

-- room, and a word behind it
room_behind : (room rest : List ℕ) → IsRoom room → begins_word rest ≡ true → Behind (room ++ rest)
room_behind room rest h begins = record {
  no_word = stops_room in_word refl room rest h;
  no_star = stops_room is_star refl room rest h;
  no_parenthesis = ap (begins_with 40) (past_gap room rest h.blanks (word_stops_blank rest begins)) ∙ word_no_parenthesis rest begins;
}

pub ssas_behind : (text : List ℕ) (ssas : List Ssa) (rest : List ℕ) → SpellsSsas text ssas → Behind rest → Behind (text ++ rest)
ssas_behind text [] rest h next = subst (λ (t : List ℕ). Behind (t ++ rest)) (sym h) next
ssas_behind text (ssa ∷ more) rest h next =
    let regrouped : text ++ rest ≡ h.0 ++ (h.1 ++ (h.2 ++ rest)) = ap (λ (t : List ℕ). t ++ rest) h.6 ∙ simp append_assoc in
    subst Behind (sym regrouped) (room_behind h.0 (h.1 ++ (h.2 ++ rest)) h.3 (ssa_begins h.1 ssa (h.2 ++ rest) h.4))

-- ---- the SSAs of a call

ssas_none : (n : ℕ) (rest : List ℕ) → begins_ssa rest ≡ false → ssas_at n rest ≡ Ok ([], rest)
unfolding ssas_at
ssas_none zero rest none_there = refl
ssas_none (suc n) rest none_there = rw none_there refl

pub ssas_again : (n : ℕ) (text : List ℕ) (ssas : List Ssa) (rest : List ℕ) → SpellsSsas text ssas → Behind rest → begins_ssa rest ≡ false → length text ≤ n → ssas_at n (text ++ rest) ≡ Ok (ssas, rest)
unfolding ssas_at
ssas_again zero text [] rest h next none_there fits = ap (λ (t : List ℕ). ssas_at 0 (t ++ rest)) h
ssas_again (suc n) text [] rest h next none_there fits = ap (λ (t : List ℕ). ssas_at (suc n) (t ++ rest)) h ∙ ssas_none (suc n) rest none_there
ssas_again zero text (ssa ∷ more) rest h next none_there fits =
    absurd (omega (arith, ap length h.6, length-append h.0 (h.1 ++ h.2), h.3.some))
ssas_again (suc n) text (ssa ∷ more) rest h next none_there fits =
    let tail = h.1 ++ (h.2 ++ rest) in
    let regrouped : text ++ rest ≡ h.0 ++ tail = ap (λ (t : List ℕ). t ++ rest) h.6 ∙ simp append_assoc in
    let begins : begins_word tail ≡ true = ssa_begins h.1 ssa (h.2 ++ rest) h.4 in
    let skipped : past is_blank (h.0 ++ tail) ≡ tail = past_gap h.0 tail h.3.blanks (word_stops_blank tail begins) in
    let left : length h.2 ≤ n = omega (arith, ap length h.6, length-append h.0 (h.1 ++ h.2), length-append h.1 h.2, h.3.some) in
    ap (ssas_at (suc n)) regrouped ∙ rw (room_begins h.0 tail h.3, skipped, begins, ssa_again h.1 ssa (h.2 ++ rest) h.4 (ssas_behind h.2 more rest h.5 next), ssas_again n h.2 more rest h.5 next none_there left) refl

-- ---- a colon and a value, to the end of the line

pub past_end : (gap : List ℕ) → IsGap gap → past is_blank gap ≡ []
past_end gap h = ap (past is_blank) (sym (append-nil gap)) ∙ past_gap gap [] h tt

and_false : (b : Bool) → (b && false) ≡ false
and_false true = refl
and_false false = refl

pub given_behind : (text : List ℕ) (content : Option Value) → SpellsGiven text content → Behind text
given_behind text None h = record {
  no_word = stops_end in_word refl text h;
  no_star = stops_end is_star refl text h;
  no_parenthesis = ap (begins_with 40) (past_end text h);
}
given_behind text (Some value) h =
    let tail = 58 ∷ (h.1 ++ (h.2 ++ h.3)) in
    subst Behind (sym h.8) (record {
      no_word = stops_gap in_word refl h.0 tail h.4 refl;
      no_star = stops_gap is_star refl h.0 tail h.4 refl;
      no_parenthesis = ap (begins_with 40) (past_gap h.0 tail h.4 refl);
    })

pub given_no_ssa : (text : List ℕ) (content : Option Value) → SpellsGiven text content → begins_ssa text ≡ false
given_no_ssa text None h = ap (λ (t : List ℕ). begins_blank text && begins_word t) (past_end text h) ∙ and_false (begins_blank text)
given_no_ssa text (Some value) h =
    let tail = 58 ∷ (h.1 ++ (h.2 ++ h.3)) in
    let skipped : past is_blank text ≡ tail = ap (past is_blank) h.8 ∙ past_gap h.0 tail h.4 refl in
    ap (λ (t : List ℕ). begins_blank text && begins_word t) skipped ∙ and_false (begins_blank text)

pub given_again : (text : List ℕ) (content : Option Value) → SpellsGiven text content → given_at (past is_blank text) ≡ Ok content
unfolding given_at
given_again text None h = ap given_at (past_end text h)
given_again text (Some value) h =
    let tail = 58 ∷ (h.1 ++ (h.2 ++ h.3)) in
    let skipped : past is_blank text ≡ tail = ap (past is_blank) h.8 ∙ past_gap h.0 tail h.4 refl in
    let inner : past is_blank (h.1 ++ (h.2 ++ h.3)) ≡ h.2 ++ h.3 = past_gap h.1 (h.2 ++ h.3) h.5 (value_no_blank h.2 value h.3 h.6) in
    ap given_at skipped ∙ rw (inner, value_again h.2 value h.3 h.6 (stops_end is_quote refl h.3 h.7), h.7) refl
