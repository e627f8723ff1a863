-- A word is judged as a whole.
use Rattle.hal_base.specs.Numbers.{number_of}
use Rattle.std.proofs.Common.{◌≡◌, ℕ, zero, suc, ◌+◌, ◌-◌, ◌*◌, ◌<◌, ◌≤◌, ◌&&◌, ◌||◌, Bool, true, false, cond, nat_lt, nat_le, List, [], ◌∷◌, ◌++◌, length, map, refl, sym, ap, subst, ◌∙◌, append_assoc, append-nil, arith, length-append, eq-eqb, fold, ap₂, codes}
use Rattle.std.specs.List.{list_all, take_while, prefix_len}
use Rattle.std.specs.Str.{bytes_eq}
use Rattle.std.proofs.lemmas.Bool.Decides.{nat_tests}
use Rattle.std.proofs.lemmas.List.Sums.{take_while-cons, fold-append}
use Rattle.std.proofs.lemmas.Slice.Eq.{bytes_eq-Decides}
use Rattle.std.proofs.lemmas.List.Folds.{list_all-append}
use Rattle.hal_base.specs.Name.{is_name, is_name_letter, is_name_byte, is_digit, upper}
use Rattle.call_text.specs.declared.fault.Fault.{Fault}
use Rattle.call_text.specs.declared.fault.Fault.TheVariants as faults
use Rattle.call_text.specs.Words.{in_word, past, is_letter, is_letter_or_digit, is_word, is_number, is_count}
use Rattle.call_text.specs.Reading.{cause_of}
use Rattle.call_text.proofs.Runs.{both}
use Rattle.call_text.proofs.States.{Kind, State, a_first, a_func, a_seg, a_code, a_field, an_operator, a_session, an_option, an_index, a_verb, a_part, a_count, at, within, dead, over, is_operator, begins_count, is_front, is_verb, begins_verb, fits, begins, bad, after, stuck, grow, place_step, word_step, over_step, judge, word_judge}

-- a byte of a run is passed
pub past_step : (test : ℕ → Bool) (b : ℕ) (text : List ℕ) → test b ≡ true → past test (b ∷ text) ≡ past test text
past_step test b text e =
    let k : 1 + prefix_len test text ≡ suc (prefix_len test text) = omega arith in
    rw (e, k) refl

pub dead_run : (fault : Fault) (text : List ℕ) → judge (dead fault) text ≡ cause_of fault
dead_run fault [] = refl
dead_run fault (b ∷ text) = dead_run fault text

-- ---- fronts of words

map_append : (a b : List ℕ) → map upper (a ++ b) ≡ map upper a ++ map upper b
map_append [] b = refl
map_append (x ∷ a) b = ap (λ (t : List ℕ). upper x ∷ t) (map_append a b)

front_all : (test : ℕ → Bool) (a b : List ℕ) → list_all test (a ++ b) ≡ true → list_all test a ≡ true
front_all test a b h = (both (list_all test a) (list_all test b) (sym (list_all-append test a b) ∙ h)).0

front_name : (a b : List ℕ) → 0 < length a → is_name (a ++ b) ≡ true → is_name a ≡ true
front_name [] b some h = absurd (omega (arith, some))
front_name (x ∷ a) b some h =
    let outer = both (is_name_letter x && list_all is_name_byte (a ++ b)) (nat_le (length (a ++ b)) 7) h in
    let inner = both (is_name_letter x) (list_all is_name_byte (a ++ b)) outer.0 in
    let short : nat_le (length a) 7 ≡ true = grind (arith, nat_tests, outer.1, length-append a b) in
    rw (inner.0, front_all is_name_byte a b inner.1, short) refl

front_word : (a b : List ℕ) → 0 < length a → is_word (a ++ b) ≡ true → is_word a ≡ true
front_word a b some h =
    let outer = both (nat_lt 0 (length (a ++ b)) && nat_le (length (a ++ b)) 8) (list_all is_letter_or_digit (a ++ b)) h in
    let inner = both (nat_lt 0 (length (a ++ b))) (nat_le (length (a ++ b)) 8) outer.0 in
    let short : nat_le (length a) 8 ≡ true = grind (arith, nat_tests, inner.1, length-append a b) in
    let there : nat_lt 0 (length a) ≡ true = grind (arith, nat_tests, some) in
    rw (there, short, front_all is_letter_or_digit a b outer.1) refl

map_some : (a : List ℕ) → 0 < length a → 0 < length (map upper a)
map_some [] h = h
map_some (x ∷ a) h = omega arith

name_front : (a b : List ℕ) → 0 < length a → is_name (map upper (a ++ b)) ≡ true → is_name (map upper a) ≡ true
name_front a b some h = front_name (map upper a) (map upper b) (map_some a some) (ap is_name (sym (map_append a b)) ∙ h)

word_front : (a b : List ℕ) → 0 < length a → is_word (map upper (a ++ b)) ≡ true → is_word (map upper a) ≡ true
word_front a b some h = front_word (map upper a) (map upper b) (map_some a some) (ap is_word (sym (map_append a b)) ∙ h)

front_operator : (a b : List ℕ) → 0 < length a → is_operator (a ++ b) ≡ true → is_operator a ≡ true
front_operator a b some h =
    let outer = both (nat_lt 0 (length (a ++ b))) (list_all is_letter (map upper (a ++ b))) h in
    let there : nat_lt 0 (length a) ≡ true = grind (arith, nat_tests, some) in
    rw (there, front_all is_letter (map upper a) (map upper b) (ap (list_all is_letter) (sym (map_append a b)) ∙ outer.1)) refl

-- ---- counts

number_grows : (n : ℕ) (digits : List ℕ) → n ≤ fold (λ n digit. 10 * n + (digit - 48)) n digits
number_grows n [] = omega arith
number_grows n (d ∷ digits) =
    let ih = number_grows (10 * n + (d - 48)) digits in
    omega (arith, ih)

number_front : (a b : List ℕ) → number_of a ≤ number_of (a ++ b)
number_front a b = rw (fold-append (λ n digit. 10 * n + (digit - 48)) 0 a b) (number_grows (number_of a) b)

number_one : (a : List ℕ) → number_of (a ++ 49 ∷ []) ≡ 10 * number_of a + 1
number_one a = fold-append (λ n digit. 10 * n + (digit - 48)) 0 a (49 ∷ [])

or_right : (p q : Bool) → q ≡ true → (p || q) ≡ true
or_right true q h = refl
or_right false q h = h

or_left : (p q : Bool) → p ≡ true → (p || q) ≡ true
or_left p q h = rw h refl

front_count : (a b : List ℕ) → 0 < length a → (is_number (a ++ b) && is_count (a ++ b)) ≡ true → begins_count a ≡ true
front_count a b some h =
    let outer = both (is_number (a ++ b)) (is_count (a ++ b)) h in
    let digits = both (nat_lt 0 (length (a ++ b))) (list_all is_digit (a ++ b)) outer.0 in
    let count = both (nat_le (length (a ++ b)) 4 && nat_le 1 (number_of (a ++ b))) (nat_le (number_of (a ++ b)) 1000) outer.1 in
    let sizes = both (nat_le (length (a ++ b)) 4) (nat_le 1 (number_of (a ++ b))) count.0 in
    let there : nat_lt 0 (length a) ≡ true = grind (arith, nat_tests, some) in
    let short : length (a ++ b) ≤ 4 = grind (arith, nat_tests, sizes.0) in
    let above : 1 ≤ number_of (a ++ b) = grind (arith, nat_tests, sizes.1) in
    let below : number_of (a ++ b) ≤ 1000 = grind (arith, nat_tests, count.1) in
    rw (there, front_all is_digit a b digits.1) (by_number b (number_of a) refl short above below)
  where
    by_number : (b : List ℕ) (n : ℕ) → number_of a ≡ n → length (a ++ b) ≤ 4 → 1 ≤ number_of (a ++ b) → number_of (a ++ b) ≤ 1000 → (is_count a || is_count (a ++ 49 ∷ [])) ≡ true
    by_number [] zero e short above below = absurd (omega (arith, e, above, ap number_of (append-nil a)))
    by_number (x ∷ b) zero e short above below =
        let len : length (a ++ 49 ∷ []) ≤ 4 = omega (arith, length-append a (49 ∷ []), length-append a (x ∷ b), short) in
        let is : number_of (a ++ 49 ∷ []) ≡ 1 = omega (arith, number_one a, e) in
        let l : nat_le (length (a ++ 49 ∷ [])) 4 ≡ true = grind (arith, nat_tests, len) in
        let m : nat_le 1 (number_of (a ++ 49 ∷ [])) ≡ true = grind (arith, nat_tests, is) in
        let k : nat_le (number_of (a ++ 49 ∷ [])) 1000 ≡ true = grind (arith, nat_tests, is) in
        or_right (is_count a) (is_count (a ++ 49 ∷ [])) (rw (l, m, k) refl)
    by_number b (suc n) e short above below =
        let l : nat_le (length a) 4 ≡ true = grind (arith, nat_tests, length-append a b, short) in
        let m : nat_le 1 (number_of a) ≡ true = grind (arith, nat_tests, e) in
        let k : nat_le (number_of a) 1000 ≡ true = grind (arith, nat_tests, number_front a b, below) in
        or_left (is_count a) (is_count (a ++ 49 ∷ [])) (rw (l, m, k) refl)

-- ---- verbs

front_of : (a b : List ℕ) → is_front a (a ++ b) ≡ true
front_of [] b = refl
front_of (x ∷ a) b = rw (eq-eqb x x refl, front_of a b) refl

front_verb : (a b : List ℕ) → is_verb (a ++ b) ≡ true → begins_verb a ≡ true
front_verb a b h = by_case (bytes_eq w (codes "STEP")) (bytes_eq w (codes "START")) (bytes_eq w (codes "PAUSE")) (bytes_eq w (codes "RESUME")) (bytes_eq w (codes "FINISH")) (bytes_eq w (codes "QUERY")) refl refl refl refl refl refl h
  where
    w : List ℕ
    w = a ++ b

    of : (word : List ℕ) → bytes_eq w word ≡ true → is_front a word ≡ true
    of word e = subst (λ (x : List ℕ). is_front a x ≡ true) ((bytes_eq-Decides w word).0 e) (front_of a b)

    by_case : (t s p r f q : Bool) → bytes_eq w (codes "STEP") ≡ t → bytes_eq w (codes "START") ≡ s → bytes_eq w (codes "PAUSE") ≡ p → bytes_eq w (codes "RESUME") ≡ r → bytes_eq w (codes "FINISH") ≡ f → bytes_eq w (codes "QUERY") ≡ q
        → (t || s || p || r || f || q) ≡ true → begins_verb a ≡ true
    by_case true s p r f q et es ep er ef eq e = or_left (is_front a (codes "STEP") || is_front a (codes "START") || is_front a (codes "PAUSE") || is_front a (codes "RESUME") || is_front a (codes "FINISH")) (is_front a (codes "QUERY")) (or_left (is_front a (codes "STEP") || is_front a (codes "START") || is_front a (codes "PAUSE") || is_front a (codes "RESUME")) (is_front a (codes "FINISH")) (or_left (is_front a (codes "STEP") || is_front a (codes "START") || is_front a (codes "PAUSE")) (is_front a (codes "RESUME")) (or_left (is_front a (codes "STEP") || is_front a (codes "START")) (is_front a (codes "PAUSE")) (or_left (is_front a (codes "STEP")) (is_front a (codes "START")) (of (codes "STEP") et)))))
    by_case false true p r f q et es ep er ef eq e = or_left (is_front a (codes "STEP") || is_front a (codes "START") || is_front a (codes "PAUSE") || is_front a (codes "RESUME") || is_front a (codes "FINISH")) (is_front a (codes "QUERY")) (or_left (is_front a (codes "STEP") || is_front a (codes "START") || is_front a (codes "PAUSE") || is_front a (codes "RESUME")) (is_front a (codes "FINISH")) (or_left (is_front a (codes "STEP") || is_front a (codes "START") || is_front a (codes "PAUSE")) (is_front a (codes "RESUME")) (or_left (is_front a (codes "STEP") || is_front a (codes "START")) (is_front a (codes "PAUSE")) (or_right (is_front a (codes "STEP")) (is_front a (codes "START")) (of (codes "START") es)))))
    by_case false false true r f q et es ep er ef eq e = or_left (is_front a (codes "STEP") || is_front a (codes "START") || is_front a (codes "PAUSE") || is_front a (codes "RESUME") || is_front a (codes "FINISH")) (is_front a (codes "QUERY")) (or_left (is_front a (codes "STEP") || is_front a (codes "START") || is_front a (codes "PAUSE") || is_front a (codes "RESUME")) (is_front a (codes "FINISH")) (or_left (is_front a (codes "STEP") || is_front a (codes "START") || is_front a (codes "PAUSE")) (is_front a (codes "RESUME")) (or_right (is_front a (codes "STEP") || is_front a (codes "START")) (is_front a (codes "PAUSE")) (of (codes "PAUSE") ep))))
    by_case false false false true f q et es ep er ef eq e = or_left (is_front a (codes "STEP") || is_front a (codes "START") || is_front a (codes "PAUSE") || is_front a (codes "RESUME") || is_front a (codes "FINISH")) (is_front a (codes "QUERY")) (or_left (is_front a (codes "STEP") || is_front a (codes "START") || is_front a (codes "PAUSE") || is_front a (codes "RESUME")) (is_front a (codes "FINISH")) (or_right (is_front a (codes "STEP") || is_front a (codes "START") || is_front a (codes "PAUSE")) (is_front a (codes "RESUME")) (of (codes "RESUME") er)))
    by_case false false false false true q et es ep er ef eq e = or_left (is_front a (codes "STEP") || is_front a (codes "START") || is_front a (codes "PAUSE") || is_front a (codes "RESUME") || is_front a (codes "FINISH")) (is_front a (codes "QUERY")) (or_right (is_front a (codes "STEP") || is_front a (codes "START") || is_front a (codes "PAUSE") || is_front a (codes "RESUME")) (is_front a (codes "FINISH")) (of (codes "FINISH") ef))
    by_case false false false false false true et es ep er ef eq e = or_right (is_front a (codes "STEP") || is_front a (codes "START") || is_front a (codes "PAUSE") || is_front a (codes "RESUME") || is_front a (codes "FINISH")) (is_front a (codes "QUERY")) (of (codes "QUERY") eq)
    by_case false false false false false false et es ep er ef eq e = absurd cc

-- ---- a front of a word that is right

fits_front : (kind : Kind) (a b : List ℕ) → 0 < length a → fits kind (a ++ b) ≡ true → begins kind a ≡ true
fits_front a_first a b some h = name_front a b some h
fits_front a_func a b some h = word_front a b some h
fits_front a_seg a b some h = name_front a b some h
fits_front a_code a b some h = word_front a b some h
fits_front a_field a b some h = name_front a b some h
fits_front an_operator a b some h = front_operator a b some h
fits_front a_session a b some h = name_front a b some (both (is_name (map upper (a ++ b))) _ h).0
fits_front an_option a b some h = word_front a b some h
fits_front an_index a b some h = name_front a b some h
fits_front a_verb a b some h =
    let p = both (is_name (map upper (a ++ b))) (is_verb (map upper (a ++ b))) h in
    let verb : begins_verb (map upper a) ≡ true = front_verb (map upper a) (map upper b) (ap is_verb (sym (map_append a b)) ∙ p.1) in
    rw (name_front a b some p.0, verb) refl
fits_front (a_part counted) a b some h = name_front a b some h
fits_front a_count a b some h = front_count a b some h

-- ---- judging a word

number_gone : (a : List ℕ) (b : ℕ) (more : List ℕ) → is_number ((a ++ b ∷ []) ++ more) ≡ (list_all is_digit (a ++ b ∷ []) && list_all is_digit more)
number_gone a b more =
    let there : nat_lt 0 (length ((a ++ b ∷ []) ++ more)) ≡ true = grind (arith, nat_tests, length-append (a ++ b ∷ []) more, length-append a (b ∷ [])) in
    rw (there) (list_all-append is_digit (a ++ b ∷ []) more)

pub over_run : (text : List ℕ) → judge over text ≡ cause_of (cond (list_all is_digit (take_while in_word text)) faults.Count faults.Form)
over_run [] = refl
over_run (b ∷ text) = by_case (in_word b) (is_digit b) refl refl (over_run text)
  where
    by_case : (v d : Bool) → in_word b ≡ v → is_digit b ≡ d → judge over text ≡ cause_of (cond (list_all is_digit (take_while in_word text)) faults.Count faults.Form) → judge (over_step b) text ≡ cause_of (cond (list_all is_digit (take_while in_word (b ∷ text))) faults.Count faults.Form)
    by_case true d e h ih =
        let longer : take_while in_word (b ∷ text) ≡ b ∷ take_while in_word text = take_while-cons in_word b text ∙ rw e refl in
        let is : list_all is_digit (take_while in_word (b ∷ text)) ≡ (is_digit b && list_all is_digit (take_while in_word text)) = ap (list_all is_digit) longer in
        ap (λ (s : State). judge s text) (rw e refl) ∙ inner d h ih ∙ ap (λ (v : Bool). cause_of (cond v faults.Count faults.Form)) (sym is)
      where
        inner : (d : Bool) → is_digit b ≡ d → judge over text ≡ cause_of (cond (list_all is_digit (take_while in_word text)) faults.Count faults.Form) → judge (cond (is_digit b) over (dead faults.Form)) text ≡ cause_of (cond (is_digit b && list_all is_digit (take_while in_word text)) faults.Count faults.Form)
        inner true h ih = rw h ih
        inner false h ih = rw h (dead_run faults.Form text)
    by_case false d e h ih =
        let is : take_while in_word (b ∷ text) ≡ [] = take_while-cons in_word b text ∙ rw e refl in
        ap (λ (s : State). judge s text) (rw e refl) ∙ dead_run faults.Count text ∙ ap (λ (w : List ℕ). cause_of (cond (list_all is_digit w) faults.Count faults.Form)) (sym is)

-- a word that nothing right begins with isn't right, whatever follows
not_fits : (kind : Kind) (a : List ℕ) (b : ℕ) (more : List ℕ) → begins kind (a ++ b ∷ []) ≡ false → fits kind ((a ++ b ∷ []) ++ more) ≡ false
not_fits kind a b more none = by_case (fits kind ((a ++ b ∷ []) ++ more)) refl
  where
    by_case : (v : Bool) → fits kind ((a ++ b ∷ []) ++ more) ≡ v → v ≡ false
    by_case true e =
        let yes = fits_front kind (a ++ b ∷ []) more (omega (arith, length-append a (b ∷ []))) e in
        sym yes ∙ none
    by_case false e = refl

pub stuck_run : (kind : Kind) (a : List ℕ) (b : ℕ) (text : List ℕ) → judge (stuck kind (a ++ b ∷ [])) text ≡ cause_of (bad kind ((a ++ b ∷ []) ++ take_while in_word text))
stuck_run a_first a b text = dead_run faults.Form text
stuck_run a_func a b text = dead_run faults.Form text
stuck_run a_seg a b text = dead_run faults.Form text
stuck_run a_code a b text = dead_run faults.Form text
stuck_run a_field a b text = dead_run faults.Form text
stuck_run an_operator a b text = dead_run faults.Form text
stuck_run a_session a b text = dead_run faults.Form text
stuck_run an_option a b text = dead_run faults.Form text
stuck_run an_index a b text = dead_run faults.Form text
stuck_run a_verb a b text = dead_run faults.Form text
stuck_run (a_part counted) a b text = dead_run faults.Form text
stuck_run a_count a b text = by_case (list_all is_digit (a ++ b ∷ [])) refl
  where
    number_is : (v : Bool) → list_all is_digit (a ++ b ∷ []) ≡ v → is_number ((a ++ b ∷ []) ++ take_while in_word text) ≡ (v && list_all is_digit (take_while in_word text))
    number_is v e = number_gone a b (take_while in_word text) ∙ ap (λ (x : Bool). x && list_all is_digit (take_while in_word text)) e

    by_case : (v : Bool) → list_all is_digit (a ++ b ∷ []) ≡ v → judge (cond v over (dead faults.Form)) text ≡ cause_of (cond (is_number ((a ++ b ∷ []) ++ take_while in_word text)) faults.Count faults.Form)
    by_case true e = over_run text ∙ ap (λ (v : Bool). cause_of (cond v faults.Count faults.Form)) (sym (number_is true e))
    by_case false e = dead_run faults.Form text ∙ ap (λ (v : Bool). cause_of (cond v faults.Count faults.Form)) (sym (number_is false e))

-- a word is judged as a whole, and then what stands behind it
pub word_run : (kind : Kind) (a text : List ℕ) → judge (within kind a) text ≡ word_judge kind (a ++ take_while in_word text) (past in_word text)
word_run kind a [] = ap (λ (w : List ℕ). word_judge kind w []) (sym (append-nil a))
word_run kind a (b ∷ text) = by_case (in_word b) (begins kind (a ++ b ∷ [])) refl refl (word_run kind (a ++ b ∷ []) text)
  where
    by_case : (v g : Bool) → in_word b ≡ v → begins kind (a ++ b ∷ []) ≡ g → judge (within kind (a ++ b ∷ [])) text ≡ word_judge kind ((a ++ b ∷ []) ++ take_while in_word text) (past in_word text) → judge (word_step kind a b) text ≡ word_judge kind (a ++ take_while in_word (b ∷ text)) (past in_word (b ∷ text))
    by_case true g e h ih =
        let w : a ++ take_while in_word (b ∷ text) ≡ (a ++ b ∷ []) ++ take_while in_word text = ap (λ (t : List ℕ). a ++ t) (take_while-cons in_word b text ∙ rw e refl) ∙ sym (append_assoc a (b ∷ []) (take_while in_word text)) in
        let r : past in_word (b ∷ text) ≡ past in_word text = past_step in_word b text e in
        ap (λ (s : State). judge s text) (rw e refl) ∙ grown g h ih ∙ sym (ap₂ (word_judge kind) w r)
      where
        grown : (g : Bool) → begins kind (a ++ b ∷ []) ≡ g → judge (within kind (a ++ b ∷ [])) text ≡ word_judge kind ((a ++ b ∷ []) ++ take_while in_word text) (past in_word text) → judge (grow kind (a ++ b ∷ [])) text ≡ word_judge kind ((a ++ b ∷ []) ++ take_while in_word text) (past in_word text)
        grown true h ih = rw h ih
        grown false h ih = rw (h, not_fits kind a b (take_while in_word text) h) (stuck_run kind a b text)
    by_case false g e h ih =
        let w : a ++ take_while in_word (b ∷ text) ≡ a = ap (λ (t : List ℕ). a ++ t) (take_while-cons in_word b text ∙ rw e refl) ∙ append-nil a in
        let r : past in_word (b ∷ text) ≡ b ∷ text = rw e refl in
        ap (λ (s : State). judge s text) (rw e refl) ∙ ended (fits kind a) ∙ sym (ap₂ (word_judge kind) w r)
      where
        ended : (v : Bool) → judge (cond v (place_step (after kind (map upper a)) b) (dead (bad kind a))) text ≡ cond v (judge (at (after kind (map upper a))) (b ∷ text)) (cause_of (bad kind a))
        ended true = refl
        ended false = dead_run (bad kind a) text
