-- Byte by byte a line gets the verdict that its parts get.
use Rattle.hal_base.specs.Reading.{◌>>=◌}
use Rattle.std.proofs.Common.{◌≡◌, ℕ, suc, ◌+◌, ◌*◌, ◌&&◌, Bool, true, false, cond, ◌==◌, List, [], ◌∷◌, length, map, Result, Ok, Err, refl, sym, ap, ◌∙◌, arith}
use Rattle.std.specs.List.{take_while, prefix_len}
use Rattle.std.proofs.lemmas.Bool.Decides.{nat_tests}
use Rattle.hal_base.specs.Name.{is_name, upper}
use Rattle.call_text.specs.declared.fault.Fault.{Fault}
use Rattle.call_text.specs.declared.fault.Fault.TheVariants as faults
use Rattle.call_text.specs.declared.line.Clause.{Clause}
use Rattle.call_text.specs.declared.line.Value.{Value}
use Rattle.call_text.specs.declared.line.Value.TheVariants.{Text, Hex}
use Rattle.call_text.specs.Printed.{is_sign}
use Rattle.call_text.specs.Words.{is_blank, in_word, past, is_word, is_hex, hex_value, printed_operator}
use Rattle.call_text.specs.Reading.{cause_of, name_at, word_at, text_at, pairs_at, hex_at, value_at, begins_blank, operator_word_at, operator_at, clause_at}
use Rattle.call_text.proofs.Loops.{onto}
use Rattle.call_text.proofs.Runs.{Stops}
use Rattle.call_text.proofs.Stopping.{other_byte}
use Rattle.call_text.proofs.Taken.{past_stops}
use Rattle.call_text.proofs.States.{Kind, Place, State, a_field, an_operator, at_field, behind_field, behind_operator, in_signs, at_value, in_text, at_quote, at_mark, hex_none, hex_odd, hex_even, behind_clause, at, within, dead, fits, bad, after, after_value, after_step, value_step, enter, gap_or, is_operator, place_step, step, ends, verdict, judge, word_judge}
use Rattle.std.proofs.lemmas.List.Sums.{take_while-cons}
use Rattle.call_text.proofs.StateWords.{dead_run, past_step, word_run}

-- the verdict on what was read, and then on the rest
abbrev pub then : {A : Type 0} → Result A Fault → (A → ℕ) → ℕ
then (Ok x) go = go x
then (Err fault) go = cause_of fault

pub then_bind : {A B : Type 0} (r : Result A Fault) (f : A → Result B Fault) (go : B → ℕ) → then (r >>= f) go ≡ then r (λ x. then (f x) go)
then_bind (Ok x) f go = refl
then_bind (Err fault) f go = refl

pub then_same : {A : Type 0} (r : Result A Fault) (f g : A → ℕ) → ((x : A) → f x ≡ g x) → then r f ≡ then r g
then_same (Ok x) f g h = h x
then_same (Err fault) f g h = refl

pub cond_true : {A : Type 0} (v : Bool) (x y : A) → v ≡ true → cond v x y ≡ x
cond_true true x y e = refl
cond_true false x y e = absurd cc

pub cond_false : {A : Type 0} (v : Bool) (x y : A) → v ≡ false → cond v x y ≡ y
cond_false true x y e = absurd cc
cond_false false x y e = refl

-- ---- gaps

pub gap_walk : (place : Place) → ((b : ℕ) → is_blank b ≡ true → place_step place b ≡ at place) → (text : List ℕ) → judge (at place) text ≡ judge (at place) (past is_blank text)
gap_walk place stays [] = refl
gap_walk place stays (b ∷ text) = by_case (is_blank b) refl (gap_walk place stays text)
  where
    by_case : (v : Bool) → is_blank b ≡ v → judge (at place) text ≡ judge (at place) (past is_blank text) → judge (at place) (b ∷ text) ≡ judge (at place) (past is_blank (b ∷ text))
    by_case true e ih =
        let k : 1 + prefix_len is_blank text ≡ suc (prefix_len is_blank text) = omega arith in
        let r : past is_blank (b ∷ text) ≡ past is_blank text = rw (e, k) refl in
        ap (λ (s : State). judge s text) (stays b e) ∙ ih ∙ sym (ap (judge (at place)) r)
    by_case false e ih =
        let r : past is_blank (b ∷ text) ≡ b ∷ text = rw e refl in
        sym (ap (judge (at place)) r)

-- a place where only a word of a kind may stand
pub record Awaits (place : Place) (kind : Kind) : Type 0 where
  pub ends_so : verdict (at place) ≡ 3
  pub fits_none : fits kind [] ≡ false
  pub bad_none : cause_of (bad kind []) ≡ 3
  pub enters : (b : ℕ) → is_blank b ≡ false → place_step place b ≡ step (within kind []) b

pub word_walk : (place : Place) (kind : Kind) (text : List ℕ) → Awaits place kind → Stops is_blank text → judge (at place) text ≡ word_judge kind (take_while in_word text) (past in_word text)
word_walk place kind [] h stops = h.ends_so ∙ sym (rw (h.fits_none) h.bad_none)
word_walk place kind (b ∷ text) h stops =
    ap (λ (s : State). judge s text) (h.enters b stops) ∙ word_run kind [] (b ∷ text)

pub chosen : {A : Type 0} (v : Bool) (x : A) (go : A → ℕ) → cond v (go x) 3 ≡ then (cond v (Ok x) (Err faults.Form)) go
chosen true x go = refl
chosen false x go = refl

abbrev pub Part : Type 0
Part = List ℕ × List ℕ

pub name_walk : (kind : Kind) → ((w : List ℕ) → fits kind w ≡ is_name (map upper w)) → ((w : List ℕ) → cause_of (bad kind w) ≡ 3) → (text : List ℕ) → word_judge kind (take_while in_word text) (past in_word text) ≡ then (name_at text) (λ (x : Part). judge (at (after kind x.0)) x.1)
unfolding name_at
name_walk kind plain form text =
    let w = take_while in_word text in
    rw (plain w, form w) (chosen (is_name (map upper w)) (map upper w, past in_word text) (λ (x : Part). judge (at (after kind x.0)) x.1))

pub plain_walk : (kind : Kind) → ((w : List ℕ) → fits kind w ≡ is_word (map upper w)) → ((w : List ℕ) → cause_of (bad kind w) ≡ 3) → (text : List ℕ) → word_judge kind (take_while in_word text) (past in_word text) ≡ then (word_at text) (λ (x : Part). judge (at (after kind x.0)) x.1)
unfolding word_at
plain_walk kind plain form text =
    let w = take_while in_word text in
    rw (plain w, form w) (chosen (is_word (map upper w)) (map upper w, past in_word text) (λ (x : Part). judge (at (after kind x.0)) x.1))

-- ---- values

after_is : (content : Bool) (b : ℕ) → after_step content b ≡ place_step (after_value content) b
after_is true b = refl
after_is false b = refl

quote_ends : (content : Bool) → ends (at_quote content) ≡ ends (after_value content)
quote_ends true = refl
quote_ends false = refl

abbrev behind_value : Bool → Part → ℕ
behind_value content x = judge (at (after_value content)) x.1

text_walk : (content : Bool) (text : List ℕ) → judge (at (in_text content)) text ≡ then (text_at text) (behind_value content)
unfolding text_at
text_walk content [] = refl
text_walk content (b ∷ []) = by_case (b == 39)
  where
    by_case : (v : Bool) → verdict (cond v (at (at_quote content)) (at (in_text content))) ≡ then (cond v (Ok ([], [])) (Err faults.Value)) (behind_value content)
    by_case true = quote_ends content
    by_case false = refl
text_walk content (b ∷ c ∷ rest) = by_case (b == 39) (c == 39) refl (text_walk content rest) (text_walk content (c ∷ rest))
  where
    by_case : (v w : Bool) → (c == 39) ≡ w → judge (at (in_text content)) rest ≡ then (text_at rest) (behind_value content) → judge (at (in_text content)) (c ∷ rest) ≡ then (text_at (c ∷ rest)) (behind_value content)
        → judge (step (cond v (at (at_quote content)) (at (in_text content))) c) rest ≡ then (cond v (cond w (onto 39 (text_at rest)) (Ok ([], c ∷ rest))) (onto b (text_at (c ∷ rest)))) (behind_value content)
    by_case true true e ih next = ap (λ (s : State). judge s rest) (rw e refl) ∙ ih ∙ sym (then_bind (text_at rest) (λ x. Ok (39 ∷ x.0, x.1)) (behind_value content))
    by_case true false e ih next = ap (λ (s : State). judge s rest) (rw e (after_is content c))
    by_case false w e ih next = next ∙ sym (then_bind (text_at (c ∷ rest)) (λ x. Ok (b ∷ x.0, x.1)) (behind_value content))

hex_no_quote : (b : ℕ) → is_hex b ≡ true → (b == 39) ≡ false
hex_no_quote b h = other_byte 39 is_hex refl b h

pairs_walk : (content : Bool) (text : List ℕ) → judge (at (hex_even content)) text ≡ then (pairs_at text) (behind_value content)
unfolding pairs_at
pairs_walk content [] = refl
pairs_walk content (a ∷ []) = by_case (is_hex a) (a == 39) refl refl
  where
    by_case : (v q : Bool) → is_hex a ≡ v → (a == 39) ≡ q → verdict (cond v (at (hex_odd content)) (cond q (at (after_value content)) (dead faults.Value))) ≡ then (cond q (Ok ([], [])) (Err faults.Value)) (behind_value content)
    by_case true true e h = let no_way : true ≡ false = sym h ∙ hex_no_quote a e in absurd cc
    by_case true false e h = refl
    by_case false true e h = refl
    by_case false false e h = refl
pairs_walk content (a ∷ b ∷ rest) = by_case (is_hex a) (is_hex b) (a == 39) refl refl refl (pairs_walk content rest)
  where
    by_case : (v w q : Bool) → is_hex a ≡ v → is_hex b ≡ w → (a == 39) ≡ q → judge (at (hex_even content)) rest ≡ then (pairs_at rest) (behind_value content)
        → judge (step (cond v (at (hex_odd content)) (cond q (at (after_value content)) (dead faults.Value))) b) rest ≡ then (cond (v && w) (onto (16 * hex_value a + hex_value b) (pairs_at rest)) (cond q (Ok ([], b ∷ rest)) (Err faults.Value))) (behind_value content)
    by_case true w true e h k ih = let no_way : true ≡ false = sym k ∙ hex_no_quote a e in absurd cc
    by_case true true false e h k ih = ap (λ (s : State). judge s rest) (rw h refl) ∙ ih ∙ sym (then_bind (pairs_at rest) (λ x. Ok ((16 * hex_value a + hex_value b) ∷ x.0, x.1)) (behind_value content))
    by_case true false false e h k ih = ap (λ (s : State). judge s rest) (rw h refl) ∙ dead_run faults.Value rest
    by_case false w true e h k ih = refl
    by_case false w false e h k ih = dead_run faults.Value rest

abbrev closed : Bool → List ℕ → Result Part Fault
closed q rest = cond q (Ok ([], rest)) (Err faults.Value)

abbrev whole_hex : Result Part Fault → Result Part Fault
whole_hex r = r >>= λ read. cond (length read.0 == 0) (Err faults.Value) (Ok (read.0, read.1))

hex_walk : (content : Bool) (text : List ℕ) → judge (at (hex_none content)) text ≡ then (hex_at text) (behind_value content)
unfolding hex_at pairs_at
hex_walk content [] = refl
hex_walk content (a ∷ []) = by_case (is_hex a) (a == 39)
  where
    by_case : (v q : Bool) → verdict (cond v (at (hex_odd content)) (dead faults.Value)) ≡ then (whole_hex (closed q [])) (behind_value content)
    by_case true true = refl
    by_case true false = refl
    by_case false true = refl
    by_case false false = refl
hex_walk content (a ∷ b ∷ rest) = by_case (is_hex a) (is_hex b) (a == 39) refl refl refl
  where
    by_case : (v w q : Bool) → is_hex a ≡ v → is_hex b ≡ w → (a == 39) ≡ q
        → judge (step (cond v (at (hex_odd content)) (dead faults.Value)) b) rest ≡ then (whole_hex (cond (v && w) (onto (16 * hex_value a + hex_value b) (pairs_at rest)) (closed q (b ∷ rest)))) (behind_value content)
    by_case true w true e h k = let no_way : true ≡ false = sym k ∙ hex_no_quote a e in absurd cc
    by_case true true false e h k = ap (λ (s : State). judge s rest) (rw h refl) ∙ pairs_walk content rest ∙ sym (many (pairs_at rest))
      where
        many : (r : Result Part Fault) → then (whole_hex (onto (16 * hex_value a + hex_value b) r)) (behind_value content) ≡ then r (behind_value content)
        many (Ok read) =
            let some : (suc (length read.0) == 0) ≡ false = grind (arith, nat_tests) in
            rw some refl
        many (Err fault) = refl
    by_case true false false e h k = ap (λ (s : State). judge s rest) (rw h refl) ∙ dead_run faults.Value rest
    by_case false w true e h k = dead_run faults.Value rest
    by_case false w false e h k = dead_run faults.Value rest

abbrev behind_given : Bool → Value × List ℕ → ℕ
behind_given content x = judge (at (after_value content)) x.1

value_starts : (content : Bool) (a : ℕ) → is_blank a ≡ false → value_step content a ≡ cond (a == 39) (at (in_text content)) (cond (upper a == 88) (at (at_mark content)) (dead faults.Form))
value_starts content a stops = rw stops refl

pub value_walk : (content : Bool) (text : List ℕ) → Stops is_blank text → judge (at (at_value content)) text ≡ then (value_at text) (behind_given content)
unfolding value_at text_at
value_walk content [] stops = refl
value_walk content (a ∷ []) stops = ap verdict (value_starts content a stops) ∙ by_case (a == 39) (upper a == 88)
  where
    by_case : (v w : Bool) → verdict (cond v (at (in_text content)) (cond w (at (at_mark content)) (dead faults.Form))) ≡ then (cond v (text_at [] >>= λ read. Ok (Text read.0, read.1)) (Err faults.Form)) (behind_given content)
    by_case true w = refl
    by_case false true = refl
    by_case false false = refl
value_walk content (a ∷ b ∷ rest) stops = ap (λ (s : State). judge s (b ∷ rest)) (value_starts content a stops) ∙ by_case (a == 39) (upper a == 88) (b == 39) refl
  where
    by_case : (v w q : Bool) → (b == 39) ≡ q → judge (cond v (at (in_text content)) (cond w (at (at_mark content)) (dead faults.Form))) (b ∷ rest) ≡ then (cond v (text_at (b ∷ rest) >>= λ read. Ok (Text read.0, read.1)) (cond (w && q) (hex_at rest >>= λ read. Ok (Hex read.0, read.1)) (Err faults.Form))) (behind_given content)
    by_case true w q e = text_walk content (b ∷ rest) ∙ sym (then_bind (text_at (b ∷ rest)) (λ read. Ok (Text read.0, read.1)) (behind_given content))
    by_case false true true e = ap (λ (s : State). judge s rest) (rw e refl) ∙ hex_walk content rest ∙ sym (then_bind (hex_at rest) (λ read. Ok (Hex read.0, read.1)) (behind_given content))
    by_case false true false e = ap (λ (s : State). judge s rest) (rw e refl) ∙ dead_run faults.Form rest
    by_case false false q e = dead_run faults.Form rest

-- ---- operators

signs_walk : (text : List ℕ) → judge (at in_signs) text ≡ judge (at (at_value false)) (past is_sign text)
signs_walk [] = refl
signs_walk (b ∷ text) = by_case (is_sign b) refl (signs_walk text)
  where
    by_case : (v : Bool) → is_sign b ≡ v → judge (at in_signs) text ≡ judge (at (at_value false)) (past is_sign text) → judge (cond (is_sign b) (at in_signs) (value_step false b)) text ≡ judge (at (at_value false)) (past is_sign (b ∷ text))
    by_case true e ih =
        let r : past is_sign (b ∷ text) ≡ past is_sign text = past_step is_sign b text e in
        ap (λ (s : State). judge s text) (cond_true (is_sign b) (at in_signs) (value_step false b) e) ∙ ih ∙ sym (ap (judge (at (at_value false))) r)
    by_case false e ih =
        let r : past is_sign (b ∷ text) ≡ b ∷ text = rw e refl in
        ap (λ (s : State). judge s text) (cond_false (is_sign b) (at in_signs) (value_step false b) e) ∙ sym (ap (judge (at (at_value false))) r)

abbrev behind_op : Part → ℕ
behind_op x = judge (at (at_value false)) x.1

operator_word_walk : (text : List ℕ) → word_judge an_operator (take_while in_word text) (past in_word text) ≡ then (operator_word_at text) behind_op
unfolding operator_word_at
operator_word_walk text = by_rest (is_operator w) (past in_word text)
  where
    w : List ℕ
    w = take_while in_word text

    op : List ℕ
    op = printed_operator (map upper w)

    by_rest : (v : Bool) (rest : List ℕ) → cond v (judge (at behind_operator) rest) 3 ≡ then (cond (v && begins_blank rest) (Ok (op, rest)) (Err faults.Form)) behind_op
    by_rest true [] = refl
    by_rest true (c ∷ rest) = by_case (is_blank c) refl
      where
        by_case : (v : Bool) → is_blank c ≡ v → judge (cond v (at (at_value false)) (dead faults.Form)) rest ≡ then (cond v (Ok (op, c ∷ rest)) (Err faults.Form)) behind_op
        by_case true e = sym (ap (λ (s : State). judge s rest) (cond_true (is_blank c) (at (at_value false)) (cond (c == 39) (at (in_text false)) (cond (upper c == 88) (at (at_mark false)) (dead faults.Form))) e))
        by_case false e = dead_run faults.Form rest
    by_rest false rest = refl

operator_walk : (text : List ℕ) → Stops is_blank text → judge (at behind_field) text ≡ then (operator_at text) behind_op
unfolding operator_at operator_word_at
operator_walk [] stops = refl
operator_walk (b ∷ text) stops = by_case (is_sign b) refl
  where
    by_case : (v : Bool) → is_sign b ≡ v → judge (at behind_field) (b ∷ text) ≡ then (operator_at (b ∷ text)) behind_op
    by_case true e =
        let run_is : take_while is_sign (b ∷ text) ≡ b ∷ take_while is_sign text = take_while-cons is_sign b text ∙ rw e refl in
        let some : (length (take_while is_sign (b ∷ text)) == 0) ≡ false = grind (arith, nat_tests, ap length run_is) in
        let read : operator_at (b ∷ text) ≡ Ok (printed_operator (take_while is_sign (b ∷ text)), past is_sign (b ∷ text)) = cond_false (length (take_while is_sign (b ∷ text)) == 0) _ _ some in
        let stepped : place_step behind_field b ≡ at in_signs = cond_false (is_blank b) (at behind_field) _ stops ∙ cond_true (is_sign b) (at in_signs) (enter an_operator b) e in
        let r : past is_sign (b ∷ text) ≡ past is_sign text = past_step is_sign b text e in
        ap (λ (s : State). judge s text) stepped ∙ signs_walk text ∙ sym (ap (λ (x : Result Part Fault). then x behind_op) read ∙ ap (judge (at (at_value false))) r)
    by_case false e =
        let run_is : take_while is_sign (b ∷ text) ≡ [] = take_while-cons is_sign b text ∙ rw e refl in
        let none : (length (take_while is_sign (b ∷ text)) == 0) ≡ true = ap (λ (t : List ℕ). length t == 0) run_is in
        let read : operator_at (b ∷ text) ≡ operator_word_at (b ∷ text) = cond_true (length (take_while is_sign (b ∷ text)) == 0) _ _ none in
        let stepped : place_step behind_field b ≡ enter an_operator b = cond_false (is_blank b) (at behind_field) _ stops ∙ cond_false (is_sign b) (at in_signs) (enter an_operator b) e in
        ap (λ (s : State). judge s text) stepped ∙ word_run an_operator [] (b ∷ text) ∙ operator_word_walk (b ∷ text) ∙ sym (ap (λ (x : Result Part Fault). then x behind_op) read)

-- ---- clauses

pub cause_form : (w : List ℕ) → cause_of faults.Form ≡ 3
cause_form w = refl

pub same_name : (w : List ℕ) → is_name (map upper w) ≡ is_name (map upper w)
same_name w = refl

pub same_word : (w : List ℕ) → is_word (map upper w) ≡ is_word (map upper w)
same_word w = refl

pub stays_at : (place : Place) (kind : Kind) (b : ℕ) → is_blank b ≡ true → gap_or place kind b ≡ at place
stays_at place kind b e = cond_true (is_blank b) (at place) (enter kind b) e

pub enters_at : (place : Place) (kind : Kind) (b : ℕ) → is_blank b ≡ false → gap_or place kind b ≡ enter kind b
enters_at place kind b e = cond_false (is_blank b) (at place) (enter kind b) e

field_walk : (text : List ℕ) → judge (at at_field) text ≡ then (name_at (past is_blank text)) (λ (x : Part). judge (at behind_field) x.1)
field_walk text =
    gap_walk at_field (stays_at at_field a_field) text
    ∙ word_walk at_field a_field (past is_blank text) (record { ends_so = refl; fits_none = refl; bad_none = refl; enters = enters_at at_field a_field }) (past_stops is_blank text)
    ∙ name_walk a_field same_name cause_form (past is_blank text)

field_stays : (b : ℕ) → is_blank b ≡ true → place_step behind_field b ≡ at behind_field
field_stays b e = cond_true (is_blank b) (at behind_field) _ e

value_stays : (content : Bool) (b : ℕ) → is_blank b ≡ true → place_step (at_value content) b ≡ at (at_value content)
value_stays content b e = cond_true (is_blank b) (at (at_value content)) _ e

abbrev pub ReadClause : Type 0
ReadClause = Clause × List ℕ

pub clause_walk : (or : Bool) (text : List ℕ) → judge (at at_field) text ≡ then (clause_at or (past is_blank text)) (λ (x : ReadClause). judge (at behind_clause) x.1)
unfolding clause_at
clause_walk or text =
    field_walk text ∙ then_same (name_at (past is_blank text)) _ _ behind_name ∙ sym (then_bind (name_at (past is_blank text)) _ _)
  where
    behind_clauses : ReadClause → ℕ
    behind_clauses x = judge (at behind_clause) x.1

    behind_name : (field : Part) → judge (at behind_field) field.1 ≡ then (operator_at (past is_blank field.1) >>= λ op. value_at (past is_blank op.1) >>= λ value. Ok (record { field = field.0; op = op.0; value = value.0; or = or }, value.1)) (λ (x : ReadClause). judge (at behind_clause) x.1)
    behind_name field =
        gap_walk behind_field field_stays field.1 ∙ operator_walk (past is_blank field.1) (past_stops is_blank field.1)
        ∙ then_same (operator_at (past is_blank field.1)) behind_op _ (λ op. gap_walk (at_value false) (value_stays false) op.1 ∙ value_walk false (past is_blank op.1) (past_stops is_blank op.1) ∙ sym (then_bind (value_at (past is_blank op.1)) _ _))
        ∙ sym (then_bind (operator_at (past is_blank field.1)) _ _)
