-- Byte by byte a line gets the verdict that its forms get.
use Rattle.hal_base.specs.Reading.{◌>>=◌}
use Rattle.hal_base.specs.Bytes.{is_printable}
use Rattle.std.proofs.Common.{◌≡◌, ℕ, zero, suc, ◌<◌, ◌≤◌, ◌&&◌, ◌||◌, Bool, true, false, cond, ◌==◌, List, [], ◌∷◌, length, Option, Some, None, Result, Ok, Err, refl, sym, ap, ◌∙◌, arith, length-append, length-drop}
use Rattle.std.specs.List.{list_all, take_while, prefix_len}
use Rattle.call_text.specs.declared.fault.Fault.{Fault}
use Rattle.call_text.specs.declared.fault.Fault.TheVariants as faults
use Rattle.call_text.specs.declared.line.Clause.{Clause}
use Rattle.call_text.specs.declared.line.Ssa.{Ssa}
use Rattle.call_text.specs.declared.line.Value.{Value}
use Rattle.call_text.specs.Words.{is_blank, in_word, past, begins_with}
use Rattle.call_text.specs.Reading.{name_at, word_at, value_at, begins_blank, clause_at, connector_at, clause_and_connector_at, clauses_at, codes_at, behind, qualification_at, ssa_at, begins_word, begins_ssa, ssas_at, is_end, given_at, call_at}
use Rattle.call_text.proofs.Loops.{onto}
use Rattle.call_text.proofs.Runs.{both, Stops}
use Rattle.call_text.proofs.Stopping.{other_byte, word_blank}
use Rattle.call_text.specs.Spelling.{SpellsSsa}
use Rattle.call_text.proofs.Taken.{past_stops, past_prints, name_taken, word_taken, Taken}
use Rattle.call_text.proofs.States.{State, a_func, a_seg, a_code, at_func, behind_seg, at_code, between, at_field, at_value, behind_clause, at_end, at, dead, between_step, enter, place_step, judge, word_judge}
use Rattle.call_text.proofs.StateWords.{dead_run, past_step, word_run}
use Rattle.call_text.proofs.ValuesPrinted.{Prints}
use Rattle.call_text.proofs.ClausesTaken.{joined_taken, codes_taken, ssa_taken}
use Rattle.call_text.proofs.Walks.{then, then_bind, then_same, cond_true, cond_false, gap_walk, word_walk, Part, name_walk, plain_walk, value_walk, cause_form, same_name, same_word, stays_at, enters_at, ReadClause, clause_walk}

-- the same verdict on all that may have been read
pub then_at : {A : Type 0} (r : Result A Fault) (f g : A → ℕ) → ((x : A) → r ≡ Ok x → f x ≡ g x) → then r f ≡ then r g
then_at (Ok x) f g h = h x refl
then_at (Err fault) f g h = refl

-- ---- clauses in parentheses

abbrev go_on : Option Bool → List ℕ → ℕ
go_on None rest = judge (at (between false false)) rest
go_on (Some or) rest = judge (at at_field) rest

abbrev ReadNext : Type 0
ReadNext = Option Bool × List ℕ

abbrev next_of : Option Bool → List ℕ → Result ReadNext Fault
next_of next rest = Ok (next, rest)

connector_walk : (text : List ℕ) → Stops is_blank text → judge (at behind_clause) text ≡ then (connector_at text) (λ (x : ReadNext). go_on x.0 x.1)
unfolding connector_at
connector_walk [] stops = refl
connector_walk (b ∷ rest) stops = ap (λ (s : State). judge s rest) (cond_false (is_blank b) (at behind_clause) _ stops) ∙ by_case (b == 41) (b == 38 || b == 42) (b == 124 || b == 43)
  where
    by_case : (u v w : Bool) → judge (cond u (at (between false false)) (cond v (at at_field) (cond w (at at_field) (dead faults.Form)))) rest ≡ then (cond u (next_of None rest) (cond v (next_of (Some false) rest) (cond w (next_of (Some true) rest) (Err faults.Form)))) (λ (x : ReadNext). go_on x.0 x.1)
    by_case true v w = refl
    by_case false true w = refl
    by_case false false true = refl
    by_case false false false = dead_run faults.Form rest

abbrev ReadJoined : Type 0
ReadJoined = Clause × Option Bool × List ℕ

clause_stays : (b : ℕ) → is_blank b ≡ true → place_step behind_clause b ≡ at behind_clause
clause_stays b e = cond_true (is_blank b) (at behind_clause) _ e

joined_walk : (or : Bool) (text : List ℕ) → judge (at at_field) text ≡ then (clause_and_connector_at or text) (λ (x : ReadJoined). go_on x.1 x.2)
unfolding clause_and_connector_at
joined_walk or text =
    clause_walk or text
    ∙ then_same (clause_at or (past is_blank text)) (λ (x : ReadClause). judge (at behind_clause) x.1) _ (λ clause. gap_walk behind_clause clause_stays clause.1 ∙ connector_walk (past is_blank clause.1) (past_stops is_blank clause.1) ∙ sym (then_bind (connector_at (past is_blank clause.1)) _ _))
    ∙ sym (then_bind (clause_at or (past is_blank text)) _ _)

abbrev ReadClauses : Type 0
ReadClauses = List Clause × List ℕ

abbrev behind_clauses : ReadClauses → ℕ
behind_clauses x = judge (at (between false false)) x.1

clauses_done : (n : ℕ) (text : List ℕ) → clauses_at n None text ≡ Ok ([], text)
unfolding clauses_at
clauses_done zero text = refl
clauses_done (suc n) text = refl

clauses_walk : (n : ℕ) (or : Bool) (text : List ℕ) → Prints text → length text ≤ n → judge (at at_field) text ≡ then (clauses_at n (Some or) text) behind_clauses
unfolding clauses_at
clauses_walk zero or [] prints fits_it = refl
clauses_walk zero or (b ∷ text) prints fits_it = absurd (omega (arith, fits_it))
clauses_walk (suc n) or text prints fits_it =
    joined_walk or text
    ∙ then_at (clause_and_connector_at or text) (λ (x : ReadJoined). go_on x.1 x.2) (λ (x : ReadJoined). then (onto x.0 (clauses_at n x.1 x.2)) behind_clauses) (λ x e. others x (λ o rest p f. clauses_walk n o rest p f) (joined_taken or text x.0 x.1 x.2 prints e).prints (shorter x e))
    ∙ sym (then_bind (clause_and_connector_at or text) _ behind_clauses)
  where
    shorter : (x : ReadJoined) → clause_and_connector_at or text ≡ Ok x → length x.2 ≤ n
    shorter x e =
        let t = joined_taken or text x.0 x.1 x.2 prints e in
        omega (arith, ap length t.whole, length-append t.front (t.sign ∷ x.2), fits_it)

    others : (x : ReadJoined) → ((o : Bool) (rest : List ℕ) → Prints rest → length rest ≤ n → judge (at at_field) rest ≡ then (clauses_at n (Some o) rest) behind_clauses) → Prints x.2 → length x.2 ≤ n → go_on x.1 x.2 ≡ then (onto x.0 (clauses_at n x.1 x.2)) behind_clauses
    others x again p f = by_next x.1 x.2 p f ∙ sym (then_bind (clauses_at n x.1 x.2) _ behind_clauses)
      where
        by_next : (next : Option Bool) (rest : List ℕ) → Prints rest → length rest ≤ n → go_on next rest ≡ then (clauses_at n next rest) behind_clauses
        by_next None rest p f = sym (ap (λ (r : Result ReadClauses Fault). then r behind_clauses) (clauses_done n rest))
        by_next (Some o) rest p f = again o rest p f

-- ---- the parts of an SSA

-- where no parenthesis opens, it doesn't matter that one may
shut_walk : (spaced : Bool) (text : List ℕ) → begins_with 40 (past is_blank text) ≡ false → judge (at (between true spaced)) text ≡ judge (at (between false spaced)) text
shut_walk spaced [] h = refl
shut_walk spaced (b ∷ text) h = by_case (is_blank b) refl (λ k. shut_walk true text k)
  where
    by_case : (v : Bool) → is_blank b ≡ v → (begins_with 40 (past is_blank text) ≡ false → judge (at (between true true)) text ≡ judge (at (between false true)) text) → judge (between_step true spaced b) text ≡ judge (between_step false spaced b) text
    by_case true e again =
        let r : past is_blank (b ∷ text) ≡ past is_blank text = past_step is_blank b text e in
        ap (λ (s : State). judge s text) (cond_true (is_blank b) (at (between true true)) _ e) ∙ again (ap (begins_with 40) (sym r) ∙ h) ∙ sym (ap (λ (s : State). judge s text) (cond_true (is_blank b) (at (between false true)) _ e))
    by_case false e again =
        let r : past is_blank (b ∷ text) ≡ b ∷ text = rw e refl in
        let no_open : (b == 40) ≡ false = ap (begins_with 40) (sym r) ∙ h in
        ap (λ (s : State). judge s text) (cond_false (is_blank b) (at (between true true)) _ e ∙ cond_false (b == 40) (at at_field) _ no_open) ∙ sym (ap (λ (s : State). judge s text) (cond_false (is_blank b) (at (between false true)) _ e))

-- where one opens, a clause follows
opened_walk : (spaced : Bool) (text : List ℕ) → begins_with 40 (past is_blank text) ≡ true → judge (at (between true spaced)) text ≡ judge (at at_field) (behind (past is_blank text))
opened_walk spaced [] h = absurd cc
opened_walk spaced (b ∷ text) h = by_case (is_blank b) refl (λ k. opened_walk true text k)
  where
    by_case : (v : Bool) → is_blank b ≡ v → (begins_with 40 (past is_blank text) ≡ true → judge (at (between true true)) text ≡ judge (at at_field) (behind (past is_blank text))) → judge (between_step true spaced b) text ≡ judge (at at_field) (behind (past is_blank (b ∷ text)))
    by_case true e again =
        let r : past is_blank (b ∷ text) ≡ past is_blank text = past_step is_blank b text e in
        ap (λ (s : State). judge s text) (cond_true (is_blank b) (at (between true true)) _ e) ∙ again (ap (begins_with 40) (sym r) ∙ h) ∙ sym (ap (λ (t : List ℕ). judge (at at_field) (behind t)) r)
    by_case false e again =
        let r : past is_blank (b ∷ text) ≡ b ∷ text = rw e refl in
        let opens : (b == 40) ≡ true = ap (begins_with 40) (sym r) ∙ h in
        ap (λ (s : State). judge s text) (cond_false (is_blank b) (at (between true true)) _ e ∙ cond_true (b == 40) (at at_field) _ opens) ∙ sym (ap (λ (t : List ℕ). judge (at at_field) (behind t)) r)

behind_prints : (text : List ℕ) → Prints text → Prints (behind text)
behind_prints [] p = refl
behind_prints (b ∷ text) p = (both (is_printable b) (list_all is_printable text) p).1

behind_short : (text : List ℕ) → length (behind text) ≤ length text
behind_short [] = omega arith
behind_short (b ∷ text) = omega arith

past_short : (text : List ℕ) → length (past is_blank text) ≤ length text
past_short text = omega (arith, length-drop (prefix_len is_blank text) text)

past_shorter : (text : List ℕ) → begins_blank text ≡ true → length (past is_blank text) < length text
past_shorter [] h = absurd cc
past_shorter (b ∷ text) h = omega (arith, ap length (past_step is_blank b text h), past_short text)

qualification_walk : (text : List ℕ) → Prints text → judge (at (between true false)) text ≡ then (qualification_at text) behind_clauses
unfolding qualification_at
qualification_walk text prints = by_case (begins_with 40 (past is_blank text)) refl
  where
    by_case : (v : Bool) → begins_with 40 (past is_blank text) ≡ v → judge (at (between true false)) text ≡ then (cond v (clauses_at (length text) (Some false) (behind (past is_blank text))) (Ok ([], text))) behind_clauses
    by_case true e = opened_walk false text e ∙ clauses_walk (length text) false (behind (past is_blank text)) (behind_prints (past is_blank text) (past_prints text prints)) (omega (arith, behind_short (past is_blank text), past_short text))
    by_case false e = shut_walk false text e

code_walk : (text : List ℕ) → judge (at at_code) text ≡ then (word_at text) (λ (x : Part). judge (at (between true false)) x.1)
code_walk text = entered text ∙ plain_walk a_code same_word cause_form text
  where
    entered : (text : List ℕ) → judge (at at_code) text ≡ word_judge a_code (take_while in_word text) (past in_word text)
    entered [] = refl
    entered (b ∷ text) = word_run a_code [] (b ∷ text)

codes_walk : (text : List ℕ) → judge (at behind_seg) text ≡ then (codes_at text) (λ (x : Part). judge (at (between true false)) x.1)
unfolding codes_at
codes_walk [] = refl
codes_walk (b ∷ text) = by_case (b == 42)
  where
    by_case : (v : Bool) → judge (cond v (at at_code) (between_step true false b)) text ≡ then (cond v (word_at text) (Ok ([], b ∷ text))) (λ (x : Part). judge (at (between true false)) x.1)
    by_case true = code_walk text
    by_case false = refl

abbrev ReadSsa : Type 0
ReadSsa = Ssa × List ℕ

ssa_walk : (text : List ℕ) → Prints text → word_judge a_seg (take_while in_word text) (past in_word text) ≡ then (ssa_at text) (λ (x : ReadSsa). judge (at (between false false)) x.1)
unfolding ssa_at
ssa_walk text prints =
    name_walk a_seg same_name cause_form text
    ∙ then_at (name_at text) (λ (x : Part). judge (at behind_seg) x.1) _ (λ seg e. codes_walk seg.1 ∙ then_at (codes_at seg.1) (λ (x : Part). judge (at (between true false)) x.1) _ (λ code k. qualification_walk code.1 (codes_taken seg.1 code.0 code.1 (name_taken text seg.0 seg.1 prints e).taken.prints k).prints ∙ sym (then_bind (qualification_at code.1) _ _)) ∙ sym (then_bind (codes_at seg.1) _ _))
    ∙ sym (then_bind (name_at text) _ _)

-- ---- a colon and a value, to the end of the line

abbrev pub none_left : {A : Type 0} → A → ℕ
none_left x = 0

pub end_walk : (text : List ℕ) → judge (at at_end) text ≡ cond (is_end text) 0 3
end_walk [] = refl
end_walk (b ∷ text) = by_case (is_blank b) refl (end_walk text)
  where
    by_case : (v : Bool) → is_blank b ≡ v → judge (at at_end) text ≡ cond (is_end text) 0 3 → judge (cond v (at at_end) (dead faults.Form)) text ≡ cond (v && is_end text) 0 3
    by_case true e ih = ih
    by_case false e ih = dead_run faults.Form text

pub end_chosen : {A : Type 0} (v : Bool) (x : A) → cond v 0 3 ≡ then (cond v (Ok x) (Err faults.Form)) none_left
end_chosen true x = refl
end_chosen false x = refl

content_stays : (b : ℕ) → is_blank b ≡ true → place_step (at_value true) b ≡ at (at_value true)
content_stays b e = cond_true (is_blank b) (at (at_value true)) _ e

abbrev a_value : Value → Option Value
a_value value = Some value

colon_walk : (rest : List ℕ) → judge (at (at_value true)) rest ≡ then (value_at (past is_blank rest) >>= λ value. cond (is_end value.1) (Ok (a_value value.0)) (Err faults.Form)) none_left
colon_walk rest =
    gap_walk (at_value true) content_stays rest ∙ value_walk true (past is_blank rest) (past_stops is_blank rest)
    ∙ then_same (value_at (past is_blank rest)) (λ (x : Value × List ℕ). judge (at at_end) x.1) _ (λ value. end_walk value.1 ∙ end_chosen (is_end value.1) (a_value value.0))
    ∙ sym (then_bind (value_at (past is_blank rest)) _ none_left)

given_step : (spaced : Bool) (text : List ℕ) → Stops is_blank text → (spaced && begins_word text) ≡ false → judge (at (between false spaced)) text ≡ then (given_at text) none_left
unfolding given_at
given_step spaced [] stops no_word = refl
given_step spaced (b ∷ rest) stops no_word = ap (λ (s : State). judge s rest) (cond_false (is_blank b) (at (between false true)) _ stops) ∙ by_case (b == 58)
  where
    by_case : (v : Bool) → judge (cond v (at (at_value true)) (cond spaced (enter a_seg b) (dead faults.Form))) rest ≡ then (cond v (value_at (past is_blank rest) >>= λ value. cond (is_end value.1) (Ok (a_value value.0)) (Err faults.Form)) (Err faults.Form)) none_left
    by_case true = colon_walk rest
    by_case false = other spaced no_word
      where
        other : (s : Bool) → (s && begins_word (b ∷ rest)) ≡ false → judge (cond s (enter a_seg b) (dead faults.Form)) rest ≡ 3
        other true h = ap (λ (s : State). judge s rest) (cond_false (in_word b) _ (dead faults.Form) h) ∙ dead_run faults.Form rest
        other false h = dead_run faults.Form rest

-- behind a blank, a word is a segment's
spaced_walk : (text : List ℕ) → begins_blank text ≡ true → judge (at (between false false)) text ≡ judge (at (between false true)) (past is_blank text)
spaced_walk [] h = absurd cc
spaced_walk (b ∷ text) h =
    let r : past is_blank (b ∷ text) ≡ past is_blank text = past_step is_blank b text h in
    ap (λ (s : State). judge s text) (cond_true (is_blank b) (at (between false true)) _ h) ∙ gap_walk (between false true) (λ c e. cond_true (is_blank c) (at (between false true)) _ e) text ∙ sym (ap (judge (at (between false true))) r)

given_walk : (text : List ℕ) → begins_ssa text ≡ false → judge (at (between false false)) text ≡ then (given_at (past is_blank text)) none_left
given_walk text none_there = by_case (begins_blank text) refl
  where
    by_case : (v : Bool) → begins_blank text ≡ v → judge (at (between false false)) text ≡ then (given_at (past is_blank text)) none_left
    by_case true e = spaced_walk text e ∙ given_step true (past is_blank text) (past_stops is_blank text) (ap (λ (v : Bool). v && begins_word (past is_blank text)) (sym e) ∙ none_there)
    by_case false e = ap (judge (at (between false false))) (sym (no_gap text e)) ∙ given_step false (past is_blank text) (past_stops is_blank text) refl
      where
        no_gap : (text : List ℕ) → begins_blank text ≡ false → past is_blank text ≡ text
        no_gap [] h = refl
        no_gap (b ∷ text) h = rw h refl

segment_walk : (text : List ℕ) → begins_word text ≡ true → judge (at (between false true)) text ≡ word_judge a_seg (take_while in_word text) (past in_word text)
segment_walk [] h = absurd cc
segment_walk (b ∷ text) h =
    let no_blank : is_blank b ≡ false = word_blank b h in
    let no_colon : (b == 58) ≡ false = other_byte 58 in_word refl b h in
    ap (λ (s : State). judge s text) (cond_false (is_blank b) (at (between false true)) _ no_blank ∙ cond_false (b == 58) (at (at_value true)) _ no_colon) ∙ word_run a_seg [] (b ∷ text)

-- ---- the SSAs of a call, and what stands behind them

abbrev ReadSsas : Type 0
ReadSsas = List Ssa × List ℕ

abbrev given_behind : ReadSsas → ℕ
given_behind x = then (given_at (past is_blank x.1)) none_left

ssas_walk : (n : ℕ) (text : List ℕ) → Prints text → length text ≤ n → judge (at (between false false)) text ≡ then (ssas_at n text) given_behind
unfolding ssas_at given_at
ssas_walk zero [] prints fits_it = refl
ssas_walk zero (b ∷ text) prints fits_it = absurd (omega (arith, fits_it))
ssas_walk (suc n) text prints fits_it = by_case (begins_ssa text) refl (λ rest p f. ssas_walk n rest p f)
  where
    by_case : (v : Bool) → begins_ssa text ≡ v → ((rest : List ℕ) → Prints rest → length rest ≤ n → judge (at (between false false)) rest ≡ then (ssas_at n rest) given_behind) → judge (at (between false false)) text ≡ then (cond v (ssa_at (past is_blank text) >>= λ ssa. onto ssa.0 (ssas_at n ssa.1)) (Ok ([], text))) given_behind
    by_case true e again =
        let h = both (begins_blank text) (begins_word (past is_blank text)) e in
        spaced_walk text h.0 ∙ segment_walk (past is_blank text) h.1 ∙ ssa_walk (past is_blank text) (past_prints text prints)
        ∙ then_at (ssa_at (past is_blank text)) (λ (x : ReadSsa). judge (at (between false false)) x.1) (λ (x : ReadSsa). then (onto x.0 (ssas_at n x.1)) given_behind) (λ x k. again x.1 (taken x k).prints (shorter x k) ∙ sym (then_bind (ssas_at n x.1) _ given_behind))
        ∙ sym (then_bind (ssa_at (past is_blank text)) _ given_behind)
      where
        taken : (x : ReadSsa) → ssa_at (past is_blank text) ≡ Ok x → Taken (λ w. SpellsSsa w x.0) (past is_blank text) x.1
        taken x k = ssa_taken (past is_blank text) x.0 x.1 (past_prints text prints) k

        shorter : (x : ReadSsa) → ssa_at (past is_blank text) ≡ Ok x → length x.1 ≤ n
        shorter x k =
            let t = taken x k in
            omega (arith, ap length t.whole, length-append t.written x.1, past_shorter text (both (begins_blank text) (begins_word (past is_blank text)) e).0, fits_it)
    by_case false e again = given_walk text e

pub call_walk : (session text : List ℕ) → Prints text → judge (at at_func) text ≡ then (call_at session text) none_left
unfolding call_at
call_walk session text prints =
    gap_walk at_func (stays_at at_func a_func) text
    ∙ word_walk at_func a_func (past is_blank text) (record { ends_so = refl; fits_none = refl; bad_none = refl; enters = enters_at at_func a_func }) (past_stops is_blank text)
    ∙ plain_walk a_func same_word cause_form (past is_blank text)
    ∙ then_at (word_at (past is_blank text)) (λ (x : Part). judge (at (between false false)) x.1) _ (λ func e. ssas_walk (length func.1) func.1 (word_taken (past is_blank text) func.0 func.1 (past_prints text prints) e).taken.prints (omega arith) ∙ then_same (ssas_at (length func.1) func.1) given_behind _ (λ ssas. sym (then_bind (given_at (past is_blank ssas.1)) _ none_left)) ∙ sym (then_bind (ssas_at (length func.1) func.1) _ none_left))
    ∙ sym (then_bind (word_at (past is_blank text)) _ none_left)
