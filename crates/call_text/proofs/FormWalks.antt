-- Byte by byte a line gets the verdict that reading gives it.
use Rattle.hal_base.specs.Reading.{◌>>=◌}
use Rattle.hal_base.specs.Numbers.{number_of}
use Rattle.std.proofs.Common.{◌≡◌, ℕ, ◌&&◌, ◌||◌, Bool, true, false, cond, List, [], ◌∷◌, map, Option, Some, None, Result, Ok, Err, refl, sym, ap, ◌∙◌, codes}
use Rattle.std.specs.List.{take_while}
use Rattle.std.specs.Str.{bytes_eq}
use Rattle.hal_base.specs.Name.{is_name, upper}
use Rattle.call_text.specs.declared.fault.Fault.{Fault}
use Rattle.call_text.specs.declared.fault.Fault.TheVariants as faults
use Rattle.call_text.specs.declared.line.Command.{Command}
use Rattle.call_text.specs.declared.line.Command.TheVariants.{Start, Step, Pause, Resume, Finish, Query}
use Rattle.call_text.specs.declared.line.Line.{Line}
use Rattle.call_text.specs.declared.line.Line.TheVariants as lines
use Rattle.call_text.specs.Words.{is_blank, in_word, past, is_number, is_count, is_reserved}
use Rattle.call_text.specs.Reading.{cause_of, name_at, word_at, is_end, call_at, session_at, index_at, open_at, count_at, or_form, command_at, reorg_at, form_at}
use Rattle.call_text.proofs.Runs.{Stops}
use Rattle.call_text.proofs.Taken.{past_stops, past_prints, name_taken}
use Rattle.call_text.proofs.States.{State, a_first, a_session, an_option, an_index, a_verb, a_part, a_count, at_first, at_func, at_session, at_option, at_index, at_verb, at_part, at_count, at_end, at, is_verb, after, enter, gap_or, judge, word_judge}
use Rattle.call_text.proofs.StateWords.{word_run}
use Rattle.call_text.proofs.ValuesPrinted.{Prints}
use Rattle.call_text.proofs.Walks.{then, then_bind, then_same, cond_true, cond_false, gap_walk, word_walk, Part, name_walk, plain_walk, cause_form, same_name, same_word, stays_at, enters_at}
use Rattle.call_text.proofs.LineWalks.{then_at, none_left, end_walk, end_chosen, call_walk}

-- ---- opens

abbrev a_part_read : Bool → List ℕ → List ℕ → Result Part Fault
a_part_read v name rest = cond v (Ok (name, rest)) (Err faults.Form)

session_walk : (text : List ℕ) → word_judge a_session (take_while in_word text) (past in_word text) ≡ then (session_at text) (λ (x : Part). judge (at at_option) x.1)
unfolding session_at name_at
session_walk text = by_case (is_name name) (is_reserved name) refl
  where
    name : List ℕ
    name = map upper (take_while in_word text)

    rest : List ℕ
    rest = past in_word text

    by_case : (v w : Bool) → is_reserved name ≡ w → cond (v && cond w false true) (judge (at at_option) rest) 3 ≡ then (a_part_read v name rest >>= λ n. cond (is_reserved n.0) (Err faults.Form) (Ok (n.0, n.1))) (λ (x : Part). judge (at at_option) x.1)
    by_case true true e = sym (ap (λ (r : Result Part Fault). then r (λ (x : Part). judge (at at_option) x.1)) (cond_true (is_reserved name) (Err faults.Form) (Ok (name, rest)) e))
    by_case true false e = sym (ap (λ (r : Result Part Fault). then r (λ (x : Part). judge (at at_option) x.1)) (cond_false (is_reserved name) (Err faults.Form) (Ok (name, rest)) e))
    by_case false w e = refl

abbrev ReadIndex : Type 0
ReadIndex = Option (List ℕ)

abbrev an_index_name : List ℕ → ReadIndex
an_index_name name = Some name

index_walk : (text : List ℕ) → judge (at at_index) text ≡ then (index_at (past is_blank text)) none_left
unfolding index_at
index_walk text = gap_walk at_index (stays_at at_index an_index) text ∙ from (past is_blank text) (past_stops is_blank text)
  where
    from : (text : List ℕ) → Stops is_blank text → judge (at at_index) text ≡ then (index_at text) none_left
    from [] stops = refl
    from (b ∷ text) stops =
        ap (λ (s : State). judge s text) (enters_at at_index an_index b stops) ∙ word_run an_index [] (b ∷ text) ∙ name_walk an_index same_name cause_form (b ∷ text)
        ∙ then_same (name_at (b ∷ text)) (λ (x : Part). judge (at at_end) x.1) _ (λ name. end_walk name.1 ∙ end_chosen (is_end name.1) (an_index_name name.0))
        ∙ sym (then_bind (name_at (b ∷ text)) _ none_left)

pub open_walk : (text : List ℕ) → judge (at at_session) text ≡ then (open_at text) none_left
unfolding open_at
open_walk text =
    gap_walk at_session (stays_at at_session a_session) text
    ∙ word_walk at_session a_session (past is_blank text) (record { ends_so = refl; fits_none = refl; bad_none = refl; enters = enters_at at_session a_session }) (past_stops is_blank text)
    ∙ session_walk (past is_blank text)
    ∙ then_same (session_at (past is_blank text)) (λ (x : Part). judge (at at_option) x.1) _ (λ session. options_walk session.1 ∙ then_same (word_at (past is_blank session.1)) (λ (x : Part). judge (at at_index) x.1) _ (λ options. index_walk options.1 ∙ sym (then_bind (index_at (past is_blank options.1)) _ none_left)) ∙ sym (then_bind (word_at (past is_blank session.1)) _ none_left))
    ∙ sym (then_bind (session_at (past is_blank text)) _ none_left)
  where
    options_walk : (rest : List ℕ) → judge (at at_option) rest ≡ then (word_at (past is_blank rest)) (λ (x : Part). judge (at at_index) x.1)
    options_walk rest =
        gap_walk at_option (stays_at at_option an_option) rest
        ∙ word_walk at_option an_option (past is_blank rest) (record { ends_so = refl; fits_none = refl; bad_none = refl; enters = enters_at at_option an_option }) (past_stops is_blank rest)
        ∙ plain_walk an_option same_word cause_form (past is_blank rest)

-- ---- commands

abbrev ReadCount : Type 0
ReadCount = ℕ × List ℕ

count_walk : (text : List ℕ) → judge (at at_count) text ≡ then (count_at (past is_blank text)) (λ (x : ReadCount). judge (at at_end) x.1)
unfolding count_at
count_walk text =
    gap_walk at_count (stays_at at_count a_count) text
    ∙ word_walk at_count a_count (past is_blank text) (record { ends_so = refl; fits_none = refl; bad_none = refl; enters = count_enters }) (past_stops is_blank text)
    ∙ by_case (is_number (take_while in_word (past is_blank text))) (is_count (take_while in_word (past is_blank text)))
  where
    w : List ℕ
    w = take_while in_word (past is_blank text)

    count_enters : (b : ℕ) → is_blank b ≡ false → gap_or at_count a_count b ≡ enter a_count b
    count_enters b e = enters_at at_count a_count b e

    by_case : (v c : Bool) → cond (v && c) (judge (at at_end) (past in_word (past is_blank text))) (cause_of (cond v faults.Count faults.Form)) ≡ then (cond v (cond c (Ok (number_of w, past in_word (past is_blank text))) (Err faults.Count)) (Err faults.Form)) (λ (x : ReadCount). judge (at at_end) x.1)
    by_case true true = refl
    by_case true false = refl
    by_case false c = refl

abbrev ReadCommand : Type 0
ReadCommand = Command × List ℕ

abbrev behind_command : ReadCommand → ℕ
behind_command x = judge (at at_end) x.1

part_walk : (steps : Bool) (text : List ℕ) → judge (at (at_part steps)) text ≡ then (name_at (past is_blank text)) (λ (x : Part). judge (at (cond steps at_count at_end)) x.1)
part_walk steps text =
    gap_walk (at_part steps) (stays_at (at_part steps) (a_part steps)) text
    ∙ word_walk (at_part steps) (a_part steps) (past is_blank text) (record { ends_so = refl; fits_none = refl; bad_none = refl; enters = enters_at (at_part steps) (a_part steps) }) (past_stops is_blank text)
    ∙ name_walk (a_part steps) same_name cause_form (past is_blank text)

no_verb : (text : List ℕ) → then (name_at text) (λ (x : Part). 3) ≡ 3
unfolding name_at
no_verb text = by_case (is_name (map upper (take_while in_word text)))
  where
    by_case : (v : Bool) → then (cond v (Ok (map upper (take_while in_word text), past in_word text)) (Err faults.Form)) (λ (x : Part). 3) ≡ 3
    by_case true = refl
    by_case false = refl

command_walk : (word rest : List ℕ) → cond (is_verb word) (judge (at (at_part (bytes_eq word (codes "STEP")))) rest) 3 ≡ then (name_at (past is_blank rest)) (λ (part : Part). then (command_at word part.1) behind_command)
unfolding command_at
command_walk word rest = by_case (bytes_eq word (codes "STEP")) (bytes_eq word (codes "START")) (bytes_eq word (codes "PAUSE")) (bytes_eq word (codes "RESUME")) (bytes_eq word (codes "FINISH")) (bytes_eq word (codes "QUERY"))
  where
    ends_there : then (name_at (past is_blank rest)) (λ (x : Part). judge (at at_end) x.1) ≡ then (name_at (past is_blank rest)) (λ (x : Part). judge (at at_end) x.1)
    ends_there = refl

    by_case : (t s p r f q : Bool) → cond (t || s || p || r || f || q) (judge (at (at_part t)) rest) 3 ≡ then (name_at (past is_blank rest)) (λ (part : Part). then (cond t (count_at (past is_blank part.1) >>= λ count. Ok (Step count.0, count.1)) (or_form (cond s (Some Start) (cond p (Some Pause) (cond r (Some Resume) (cond f (Some Finish) (cond q (Some Query) None))))) part.1)) behind_command)
    by_case true s p r f q = part_walk true rest ∙ then_same (name_at (past is_blank rest)) (λ (x : Part). judge (at at_count) x.1) _ (λ part. count_walk part.1 ∙ sym (then_bind (count_at (past is_blank part.1)) _ behind_command))
    by_case false true p r f q = part_walk false rest
    by_case false false true r f q = part_walk false rest
    by_case false false false true f q = part_walk false rest
    by_case false false false false true q = part_walk false rest
    by_case false false false false false true = part_walk false rest
    by_case false false false false false false = sym (no_verb (past is_blank rest))

verb_walk : (text : List ℕ) → word_judge a_verb (take_while in_word text) (past in_word text) ≡ then (name_at text) (λ (word : Part). cond (is_verb word.0) (judge (at (at_part (bytes_eq word.0 (codes "STEP")))) word.1) 3)
unfolding name_at
verb_walk text = by_case (is_name name) (is_verb name) refl
  where
    name : List ℕ
    name = map upper (take_while in_word text)

    rest : List ℕ
    rest = past in_word text

    by_case : (v w : Bool) → is_verb name ≡ w → cond (v && w) (judge (at (at_part (bytes_eq name (codes "STEP")))) rest) 3 ≡ then (cond v (Ok (name, rest)) (Err faults.Form)) (λ (word : Part). cond (is_verb word.0) (judge (at (at_part (bytes_eq word.0 (codes "STEP")))) word.1) 3)
    by_case true true e = sym (cond_true (is_verb name) _ 3 e)
    by_case true false e = sym (cond_false (is_verb name) _ 3 e)
    by_case false w e = refl

abbrev a_reorg : List ℕ → Command → Line
a_reorg part command = lines.Reorg part command

reorg_walk : (text : List ℕ) → judge (at at_verb) text ≡ then (reorg_at text) none_left
unfolding reorg_at
reorg_walk text =
    gap_walk at_verb (stays_at at_verb a_verb) text
    ∙ word_walk at_verb a_verb (past is_blank text) (record { ends_so = refl; fits_none = refl; bad_none = refl; enters = enters_at at_verb a_verb }) (past_stops is_blank text)
    ∙ verb_walk (past is_blank text)
    ∙ then_same (name_at (past is_blank text)) _ _ (λ word. command_walk word.0 word.1 ∙ then_same (name_at (past is_blank word.1)) _ _ (λ part. then_same (command_at word.0 part.1) behind_command _ (λ command. end_walk command.1 ∙ end_chosen (is_end command.1) (a_reorg part.0 command.0)) ∙ sym (then_bind (command_at word.0 part.1) _ none_left)) ∙ sym (then_bind (name_at (past is_blank word.1)) _ none_left))
    ∙ sym (then_bind (name_at (past is_blank text)) _ none_left)

-- ---- the line

pub form_walk : (text : List ℕ) → Prints text → judge (at at_first) text ≡ then (form_at text) none_left
unfolding form_at
form_walk text prints =
    gap_walk at_first (stays_at at_first a_first) text
    ∙ word_walk at_first a_first (past is_blank text) (record { ends_so = refl; fits_none = refl; bad_none = refl; enters = enters_at at_first a_first }) (past_stops is_blank text)
    ∙ name_walk a_first same_name cause_form (past is_blank text)
    ∙ then_at (name_at (past is_blank text)) (λ (x : Part). judge (at (after a_first x.0)) x.1) _ (λ first e. by_case first.0 first.1 (name_taken (past is_blank text) first.0 first.1 (past_prints text prints) e).taken.prints (bytes_eq first.0 (codes "PCB")) (bytes_eq first.0 (codes "REORG")))
    ∙ sym (then_bind (name_at (past is_blank text)) _ none_left)
  where
    by_case : (name rest : List ℕ) → Prints rest → (p r : Bool) → judge (at (cond p at_session (cond r at_verb at_func))) rest ≡ then (cond p (open_at rest) (cond r (reorg_at rest) (call_at name rest))) none_left
    by_case name rest prints true r = open_walk rest
    by_case name rest prints false true = reorg_walk rest
    by_case name rest prints false false = call_walk name rest prints
