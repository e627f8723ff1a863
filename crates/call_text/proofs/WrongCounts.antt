-- Only in the place of a step's count a count is wrong.
use Rattle.hal_base.specs.Reading.{◌>>=◌}
use Rattle.hal_base.specs.Numbers.{number_of}
use Rattle.std.proofs.Common.{◌≡◌, ℕ, ◌<◌, ◌&&◌, ◌||◌, Bool, true, false, cond, ◌==◌, List, [], ◌∷◌, ◌++◌, length, map, refl, ap, subst, ◌∙◌, arith, codes}
use Rattle.std.specs.List.{list_all, take_while}
use Rattle.std.specs.Str.{bytes_eq}
use Rattle.hal_base.specs.Name.{is_name, is_digit, upper}
use Rattle.call_text.specs.declared.fault.Fault.{Fault}
use Rattle.call_text.specs.declared.fault.Fault.TheVariants as faults
use Rattle.call_text.specs.Printed.{is_sign}
use Rattle.call_text.specs.Words.{is_blank, in_word, past, is_number, is_count, is_hex}
use Rattle.call_text.proofs.Runs.{both, Stops, take_run, all_weaker}
use Rattle.call_text.proofs.ValuesPrinted.{Prints}
use Rattle.call_text.proofs.States.{Kind, Place, State, a_first, a_func, a_seg, a_code, a_field, an_operator, a_session, an_option, an_index, a_verb, a_part, a_count, at_first, at_func, behind_seg, at_code, between, at_field, behind_field, behind_operator, in_signs, at_value, in_text, at_quote, at_mark, hex_none, hex_odd, hex_even, behind_clause, at_session, at_option, at_index, at_verb, at_part, at_count, at_end, at, within, dead, over, fits, begins, bad, after, after_value, after_step, value_step, between_step, end_step, clause_step, enter, grow, stuck, gap_or, place_step, word_step, step, run, ends, verdict}
use Rattle.std.proofs.Common.{Result, Ok, Err, Option, Some, None}
use Rattle.call_text.specs.declared.line.Line.{Line}
use Rattle.call_text.specs.declared.line.Line.TheVariants as lines
use Rattle.call_text.specs.declared.line.Command.{Command}
use Rattle.call_text.specs.declared.line.Command.TheVariants.{Step}
use Rattle.call_text.specs.Spelling.{IsGap, IsRoom, SpellsName}
use Rattle.call_text.specs.Faults.{EndsWord}
use Rattle.call_text.specs.Reading.{name_at, is_end, call_at, open_at, count_at, plain_command, or_form, command_at, reorg_at, form_at}
use Rattle.call_text.proofs.Stopping.{other_byte, stops_run, stops_room}
use Rattle.call_text.proofs.Again.{name_again, past_gap}
use Rattle.call_text.proofs.ClausesAgain.{name_some}
use Rattle.call_text.proofs.LinesAgain.{digit_in_word}
use Rattle.call_text.proofs.LinesTaken.{same_bytes, number_begins}
use Rattle.call_text.proofs.Taken.{parts_of, past_stops, past_prints, blanks_of, WordTaken, name_taken, room_of}
use Rattle.call_text.proofs.LineWalks.{none_left, call_walk}
use Rattle.call_text.proofs.FormWalks.{open_walk}
use Rattle.call_text.proofs.Walks.{then}

-- ---- opens and calls have no count

abbrev is_call : State → Bool
is_call (at at_first) = false
is_call (at at_func) = true
is_call (at behind_seg) = true
is_call (at at_code) = true
is_call (at (between opens spaced)) = true
is_call (at at_field) = true
is_call (at behind_field) = true
is_call (at behind_operator) = true
is_call (at in_signs) = true
is_call (at (at_value content)) = true
is_call (at (in_text content)) = true
is_call (at (at_quote content)) = true
is_call (at (at_mark content)) = true
is_call (at (hex_none content)) = true
is_call (at (hex_odd content)) = true
is_call (at (hex_even content)) = true
is_call (at behind_clause) = true
is_call (at at_session) = true
is_call (at at_option) = true
is_call (at at_index) = true
is_call (at at_verb) = false
is_call (at (at_part counted)) = false
is_call (at at_count) = false
is_call (at at_end) = true
is_call (within a_first w) = false
is_call (within a_func w) = true
is_call (within a_seg w) = true
is_call (within a_code w) = true
is_call (within a_field w) = true
is_call (within an_operator w) = true
is_call (within a_session w) = true
is_call (within an_option w) = true
is_call (within an_index w) = true
is_call (within a_verb w) = false
is_call (within (a_part counted) w) = false
is_call (within a_count w) = false
is_call (dead faults.Form) = true
is_call (dead faults.Value) = true
is_call (dead faults.Count) = false
is_call over = false

abbrev Calls : State → Type 0
Calls state = is_call state ≡ true

calls_cond : (v : Bool) (x y : State) → Calls x → Calls y → Calls (cond v x y)
calls_cond true x y hx hy = hx
calls_cond false x y hx hy = hy

-- words of calls and opens
record OfCalls (kind : Kind) : Type 0 where
  goes : (w : List ℕ) → Calls (within kind w)
  sticks : (w : List ℕ) → Calls (stuck kind w)

calls_grow : (kind : Kind) (w : List ℕ) → OfCalls kind → Calls (grow kind w)
calls_grow kind w h = calls_cond (begins kind w) _ _ (h.goes w) (h.sticks w)

calls_enter : (kind : Kind) (b : ℕ) → OfCalls kind → Calls (enter kind b)
calls_enter kind b h = calls_cond (in_word b) _ _ (calls_grow kind (b ∷ []) h) refl

calls_gap : (place : Place) (kind : Kind) (b : ℕ) → is_call (at place) ≡ true → OfCalls kind → Calls (gap_or place kind b)
calls_gap place kind b p h = calls_cond (is_blank b) _ _ p (calls_enter kind b h)

calls_value : (content : Bool) (b : ℕ) → Calls (value_step content b)
calls_value content b = calls_cond (is_blank b) _ _ refl (calls_cond (b == 39) _ _ refl (calls_cond (upper b == 88) _ _ refl refl))

calls_end : (b : ℕ) → Calls (end_step b)
calls_end b = calls_cond (is_blank b) _ _ refl refl

calls_clause : (b : ℕ) → Calls (clause_step b)
calls_clause b = calls_cond (is_blank b) _ _ refl (calls_cond (b == 41) _ _ refl (calls_cond (b == 38 || b == 42) _ _ refl (calls_cond (b == 124 || b == 43) _ _ refl refl)))

calls_after : (content : Bool) (b : ℕ) → Calls (after_step content b)
calls_after true b = calls_end b
calls_after false b = calls_clause b

after_calls : (content : Bool) → Calls (at (after_value content))
after_calls true = refl
after_calls false = refl

calls_between : (opens spaced : Bool) (b : ℕ) → Calls (between_step opens spaced b)
calls_between opens spaced b = calls_cond (is_blank b) _ _ refl (calls_cond (opens && b == 40) _ _ refl (calls_cond (b == 58) _ _ refl (calls_cond spaced _ _ (calls_enter a_seg b (record { goes = λ w. refl; sticks = λ w. refl })) refl)))

calls_place : (place : Place) (b : ℕ) → is_call (at place) ≡ true → Calls (place_step place b)
calls_place at_first b h = absurd cc
calls_place at_func b h = calls_gap at_func a_func b refl (record { goes = λ w. refl; sticks = λ w. refl })
calls_place behind_seg b h = calls_cond (b == 42) _ _ refl (calls_between true false b)
calls_place at_code b h = calls_enter a_code b (record { goes = λ w. refl; sticks = λ w. refl })
calls_place (between opens spaced) b h = calls_between opens spaced b
calls_place at_field b h = calls_gap at_field a_field b refl (record { goes = λ w. refl; sticks = λ w. refl })
calls_place behind_field b h = calls_cond (is_blank b) _ _ refl (calls_cond (is_sign b) _ _ refl (calls_enter an_operator b (record { goes = λ w. refl; sticks = λ w. refl })))
calls_place behind_operator b h = calls_cond (is_blank b) _ _ refl refl
calls_place in_signs b h = calls_cond (is_sign b) _ _ refl (calls_value false b)
calls_place (at_value content) b h = calls_value content b
calls_place (in_text content) b h = calls_cond (b == 39) _ _ refl refl
calls_place (at_quote content) b h = calls_cond (b == 39) _ _ refl (calls_after content b)
calls_place (at_mark content) b h = calls_cond (b == 39) _ _ refl refl
calls_place (hex_none content) b h = calls_cond (is_hex b) _ _ refl refl
calls_place (hex_odd content) b h = calls_cond (is_hex b) _ _ refl refl
calls_place (hex_even content) b h = calls_cond (is_hex b) _ _ refl (calls_cond (b == 39) _ _ (after_calls content) refl)
calls_place behind_clause b h = calls_clause b
calls_place at_session b h = calls_gap at_session a_session b refl (record { goes = λ w. refl; sticks = λ w. refl })
calls_place at_option b h = calls_gap at_option an_option b refl (record { goes = λ w. refl; sticks = λ w. refl })
calls_place at_index b h = calls_gap at_index an_index b refl (record { goes = λ w. refl; sticks = λ w. refl })
calls_place at_verb b h = absurd cc
calls_place (at_part counted) b h = absurd cc
calls_place at_count b h = absurd cc
calls_place at_end b h = calls_end b

calls_word : (kind : Kind) (w : List ℕ) (b : ℕ) → OfCalls kind → is_call (at (after kind (map upper w))) ≡ true → Calls (dead (bad kind w)) → Calls (word_step kind w b)
calls_word kind w b h goes fails = calls_cond (in_word b) _ _ (calls_grow kind (w ++ b ∷ []) h) (calls_cond (fits kind w) _ _ (calls_place (after kind (map upper w)) b goes) fails)

calls_step : (state : State) (b : ℕ) → Calls state → Calls (step state b)
calls_step (at place) b h = calls_place place b h
calls_step (within a_first w) b h = absurd cc
calls_step (within a_func w) b h = calls_word a_func w b (record { goes = λ x. refl; sticks = λ x. refl }) refl refl
calls_step (within a_seg w) b h = calls_word a_seg w b (record { goes = λ x. refl; sticks = λ x. refl }) refl refl
calls_step (within a_code w) b h = calls_word a_code w b (record { goes = λ x. refl; sticks = λ x. refl }) refl refl
calls_step (within a_field w) b h = calls_word a_field w b (record { goes = λ x. refl; sticks = λ x. refl }) refl refl
calls_step (within an_operator w) b h = calls_word an_operator w b (record { goes = λ x. refl; sticks = λ x. refl }) refl refl
calls_step (within a_session w) b h = calls_word a_session w b (record { goes = λ x. refl; sticks = λ x. refl }) refl refl
calls_step (within an_option w) b h = calls_word an_option w b (record { goes = λ x. refl; sticks = λ x. refl }) refl refl
calls_step (within an_index w) b h = calls_word an_index w b (record { goes = λ x. refl; sticks = λ x. refl }) refl refl
calls_step (within a_verb w) b h = absurd cc
calls_step (within (a_part counted) w) b h = absurd cc
calls_step (within a_count w) b h = absurd cc
calls_step (dead fault) b h = h
calls_step over b h = absurd cc

calls_run : (state : State) (text : List ℕ) → Calls state → Calls (run state text)
calls_run state [] h = h
calls_run state (b ∷ text) h = calls_run (step state b) text (calls_step state b h)

place_five : (place : Place) → ends place ≡ 5 → ⊥
place_five at_first e = absurd cc
place_five at_func e = absurd cc
place_five behind_seg e = absurd cc
place_five at_code e = absurd cc
place_five (between opens spaced) e = absurd cc
place_five at_field e = absurd cc
place_five behind_field e = absurd cc
place_five behind_operator e = absurd cc
place_five in_signs e = absurd cc
place_five (at_value content) e = absurd cc
place_five (in_text content) e = absurd cc
place_five (at_quote true) e = absurd cc
place_five (at_quote false) e = absurd cc
place_five (at_mark content) e = absurd cc
place_five (hex_none content) e = absurd cc
place_five (hex_odd content) e = absurd cc
place_five (hex_even content) e = absurd cc
place_five behind_clause e = absurd cc
place_five at_session e = absurd cc
place_five at_option e = absurd cc
place_five at_index e = absurd cc
place_five at_verb e = absurd cc
place_five (at_part counted) e = absurd cc
place_five at_count e = absurd cc
place_five at_end e = absurd cc

word_five : (v : Bool) (place : Place) → cond v (ends place) 3 ≡ 5 → ⊥
word_five true place e = place_five place e
word_five false place e = absurd cc

no_five : (state : State) → Calls state → verdict state ≡ 5 → ⊥
no_five (at place) h e = place_five place e
no_five (within a_first w) h e = absurd cc
no_five (within a_func w) h e = word_five (fits a_func w) (after a_func (map upper w)) e
no_five (within a_seg w) h e = word_five (fits a_seg w) (after a_seg (map upper w)) e
no_five (within a_code w) h e = word_five (fits a_code w) (after a_code (map upper w)) e
no_five (within a_field w) h e = word_five (fits a_field w) (after a_field (map upper w)) e
no_five (within an_operator w) h e = word_five (fits an_operator w) (after an_operator (map upper w)) e
no_five (within a_session w) h e = word_five (fits a_session w) (after a_session (map upper w)) e
no_five (within an_option w) h e = word_five (fits an_option w) (after an_option (map upper w)) e
no_five (within an_index w) h e = word_five (fits an_index w) (after an_index (map upper w)) e
no_five (within a_verb w) h e = absurd cc
no_five (within (a_part counted) w) h e = absurd cc
no_five (within a_count w) h e = absurd cc
no_five (dead faults.Form) h e = absurd cc
no_five (dead faults.Value) h e = absurd cc
no_five (dead faults.Count) h e = absurd cc
no_five over h e = absurd cc

-- ---- a wrong count is read as one

-- in the place of a step's count a word of digits alone that is none
pub record HasWrongCount (text : List ℕ) : Type 0 where
  pub gap : List ℕ
  pub word : List ℕ
  pub first : List ℕ
  pub verb : List ℕ
  pub second : List ℕ
  pub name : List ℕ
  pub part : List ℕ
  pub third : List ℕ
  pub digits : List ℕ
  pub rest : List ℕ
  pub whole : text ≡ gap ++ (word ++ (first ++ (verb ++ (second ++ (name ++ (third ++ (digits ++ rest)))))))
  pub gap_is : IsGap gap
  pub word_is : SpellsName word (codes "REORG")
  pub first_is : IsRoom first
  pub verb_is : SpellsName verb (codes "STEP")
  pub second_is : IsRoom second
  pub name_is : SpellsName name part
  pub third_is : IsRoom third
  pub number : is_number digits ≡ true
  pub wrong : is_count digits ≡ false
  pub ended : EndsWord rest

stops_of : (rest : List ℕ) → EndsWord rest → Stops in_word rest
stops_of [] h = tt
stops_of (b ∷ rest) h = h

ends_of : (rest : List ℕ) → Stops in_word rest → EndsWord rest
ends_of [] h = tt
ends_of (b ∷ rest) h = h

some_digits : (digits : List ℕ) → is_number digits ≡ true → 0 < length digits
some_digits [] e = absurd cc
some_digits (d ∷ digits) e = omega arith

wrong_at : (digits rest : List ℕ) → is_number digits ≡ true → is_count digits ≡ false → Stops in_word rest → count_at (digits ++ rest) ≡ Err faults.Count
unfolding count_at
wrong_at digits rest number wrong stops =
    let all : list_all in_word digits ≡ true = all_weaker is_digit in_word digit_in_word digits (both _ (list_all is_digit digits) number).1 in
    rw (take_run in_word digits rest all stops, number, wrong) refl

step_wrong : (third digits rest : List ℕ) → IsRoom third → is_number digits ≡ true → is_count digits ≡ false → Stops in_word rest → command_at (codes "STEP") (third ++ (digits ++ rest)) ≡ Err faults.Count
unfolding command_at
step_wrong third digits rest room number wrong stops =
    let begins_so : Stops is_blank (digits ++ rest) = stops_run is_blank is_digit (λ b p. other_byte 32 is_digit refl b p) digits rest (some_digits digits number) (both _ (list_all is_digit digits) number).1 in
    let skipped : past is_blank (third ++ (digits ++ rest)) ≡ digits ++ rest = past_gap third (digits ++ rest) room.blanks begins_so in
    rw (skipped, wrong_at digits rest number wrong stops) refl

pub wrong_read : (text : List ℕ) → HasWrongCount text → form_at text ≡ Err faults.Count
unfolding form_at reorg_at
wrong_read text h =
    let counted = h.digits ++ h.rest in
    let behind_part = h.third ++ counted in
    let inner = h.name ++ behind_part in
    let tail = h.second ++ inner in
    let behind_word = h.first ++ (h.verb ++ tail) in
    let skipped : past is_blank (h.gap ++ (h.word ++ behind_word)) ≡ h.word ++ behind_word = past_gap h.gap (h.word ++ behind_word) h.gap_is (name_some h.word (codes "REORG") behind_word h.word_is) in
    let skip_first : past is_blank behind_word ≡ h.verb ++ tail = past_gap h.first (h.verb ++ tail) h.first_is.blanks (name_some h.verb (codes "STEP") tail h.verb_is) in
    let skip_second : past is_blank tail ≡ inner = past_gap h.second inner h.second_is.blanks (name_some h.name h.part behind_part h.name_is) in
    ap form_at h.whole ∙ rw (skipped, name_again h.word (codes "REORG") behind_word h.word_is (stops_room in_word refl h.first (h.verb ++ tail) h.first_is), skip_first, name_again h.verb (codes "STEP") tail h.verb_is (stops_room in_word refl h.second inner h.second_is), skip_second, name_again h.name h.part behind_part h.name_is (stops_room in_word refl h.third counted h.third_is), step_wrong h.third h.digits h.rest h.third_is h.number h.wrong (stops_of h.rest h.ended)) refl

-- ---- and nothing else is

record Passed {A B : Type 0} (r : Result A Fault) (f : A → Result B Fault) : Type 0 where
  value : A
  read : r ≡ Ok value
  fails : f value ≡ Err faults.Count

-- a step that fails by a count, or one before it
bind_count : {A B : Type 0} (r : Result A Fault) (f : A → Result B Fault) → (r ≡ Err faults.Count → ⊥) → (r >>= f) ≡ Err faults.Count → Passed r f
bind_count (Ok x) f never e = record { value = x; read = refl; fails = e }
bind_count (Err faults.Form) f never e = absurd cc
bind_count (Err faults.Value) f never e = absurd cc
bind_count (Err faults.Count) f never e = absurd (never refl)

abbrev read_name : Bool → List ℕ → List ℕ → Result (List ℕ × List ℕ) Fault
read_name v name rest = cond v (Ok (name, rest)) (Err faults.Form)

abbrev read_count : Bool → Bool → ℕ → List ℕ → Result (ℕ × List ℕ) Fault
read_count v c groups rest = cond v (cond c (Ok (groups, rest)) (Err faults.Count)) (Err faults.Form)

name_no_count : (text : List ℕ) → name_at text ≡ Err faults.Count → ⊥
unfolding name_at
name_no_count text e = by_case (is_name (map upper (take_while in_word text))) e
  where
    by_case : (v : Bool) → read_name v (map upper (take_while in_word text)) (past in_word text) ≡ Err faults.Count → ⊥
    by_case true h = absurd cc
    by_case false h = absurd cc

record Counted (text : List ℕ) : Type 0 where
  number : is_number (take_while in_word text) ≡ true
  wrong : is_count (take_while in_word text) ≡ false

count_wrong : (text : List ℕ) → count_at text ≡ Err faults.Count → Counted text
unfolding count_at
count_wrong text e = by_case (is_number w) (is_count w) refl refl e
  where
    w : List ℕ
    w = take_while in_word text

    by_case : (v c : Bool) → is_number w ≡ v → is_count w ≡ c → read_count v c (number_of w) (past in_word text) ≡ Err faults.Count → Counted text
    by_case true true h k x = absurd cc
    by_case true false h k x = record { number = h; wrong = k }
    by_case false c h k x = absurd cc

or_form_no_count : (c : Option Command) (text : List ℕ) → or_form c text ≡ Err faults.Count → ⊥
or_form_no_count None text e = absurd cc
or_form_no_count (Some command) text e = absurd cc

count_read : {A : Type 0} (v : Bool) (x : A) → cond v (Ok x) (Err faults.Form) ≡ Err faults.Count → ⊥
count_read true x e = absurd cc
count_read false x e = absurd cc

abbrev a_step : ℕ → List ℕ → Result (Command × List ℕ) Fault
a_step groups rest = Ok (Step groups, rest)

record StepCounted (word text : List ℕ) : Type 0 where
  word_is : word ≡ codes "STEP"
  counted : Counted (past is_blank text)

command_wrong : (word text : List ℕ) → command_at word text ≡ Err faults.Count → StepCounted word text
unfolding command_at
command_wrong word text e = by_case (bytes_eq word (codes "STEP")) refl e
  where
    by_case : (v : Bool) → bytes_eq word (codes "STEP") ≡ v → cond v (count_at (past is_blank text) >>= λ count. a_step count.0 count.1) (or_form (plain_command word) text) ≡ Err faults.Count → StepCounted word text
    by_case true is h = record { word_is = same_bytes word (codes "STEP") is; counted = fails (count_at (past is_blank text)) refl h }
      where
        fails : (r : Result (ℕ × List ℕ) Fault) → count_at (past is_blank text) ≡ r → (r >>= λ count. a_step count.0 count.1) ≡ Err faults.Count → Counted (past is_blank text)
        fails (Ok x) is h = absurd cc
        fails (Err faults.Form) is h = absurd cc
        fails (Err faults.Value) is h = absurd cc
        fails (Err faults.Count) is h = count_wrong (past is_blank text) is
    by_case false is h = absurd (or_form_no_count (plain_command word) text h)

abbrev a_reorg : List ℕ → Command → Line
a_reorg part command = lines.Reorg part command

record WordOf (text name : List ℕ) : Type 0 where
  rest : List ℕ
  word : WordTaken (λ w. SpellsName w name) text rest

-- the rest of a wrong step, behind its first word
record WrongStep (text : List ℕ) : Type 0 where
  verb : WordOf (past is_blank text) (codes "STEP")
  part : List ℕ
  name : WordOf (past is_blank verb.rest) part
  counted : Counted (past is_blank name.rest)

reorg_wrong : (text : List ℕ) → Prints text → reorg_at text ≡ Err faults.Count → WrongStep text
unfolding reorg_at
reorg_wrong text prints e =
    let a = bind_count (name_at (past is_blank text)) (λ word. name_at (past is_blank word.1) >>= λ part. command_at word.0 part.1 >>= λ command. cond (is_end command.1) (Ok (a_reorg part.0 command.0)) (Err faults.Form)) (name_no_count (past is_blank text)) e in
    let b = bind_count (name_at (past is_blank a.value.1)) (λ part. command_at a.value.0 part.1 >>= λ command. cond (is_end command.1) (Ok (a_reorg part.0 command.0)) (Err faults.Form)) (name_no_count (past is_blank a.value.1)) a.fails in
    let verb = name_taken (past is_blank text) a.value.0 a.value.1 (past_prints text prints) a.read in
    let name = name_taken (past is_blank a.value.1) b.value.0 b.value.1 (past_prints a.value.1 verb.taken.prints) b.read in
    let c = command_wrong a.value.0 b.value.1 (failed (command_at a.value.0 b.value.1) b.value.0 refl b.fails) in
    record {
      verb = record { rest = a.value.1; word = subst (λ (w : List ℕ). WordTaken (λ t. SpellsName t w) (past is_blank text) a.value.1) c.word_is verb };
      part = b.value.0;
      name = record { rest = b.value.1; word = name };
      counted = c.counted;
    }
  where
    failed : (r : Result (Command × List ℕ) Fault) (part : List ℕ) → r ≡ r → (r >>= λ command. cond (is_end command.1) (Ok (a_reorg part command.0)) (Err faults.Form)) ≡ Err faults.Count → r ≡ Err faults.Count
    failed (Ok x) part same h = absurd (count_read (is_end x.1) (a_reorg part x.0) h)
    failed (Err faults.Form) part same h = absurd cc
    failed (Err faults.Value) part same h = absurd cc
    failed (Err faults.Count) part same h = refl

wrong_of : (text word_rest : List ℕ) → WordTaken (λ w. SpellsName w (codes "REORG")) (past is_blank text) word_rest → WrongStep word_rest → HasWrongCount text
wrong_of text word_rest word h =
    let first = take_while is_blank word_rest in
    let second = take_while is_blank h.verb.rest in
    let third = take_while is_blank h.name.rest in
    let inner = past is_blank h.name.rest in
    let digits = take_while in_word inner in
    let rest = past in_word inner in
    let counted : h.name.rest ≡ third ++ (digits ++ rest) = parts_of is_blank h.name.rest ∙ ap (λ (t : List ℕ). third ++ t) (parts_of in_word inner) in
    let named : h.verb.rest ≡ second ++ (h.name.word.taken.written ++ (third ++ (digits ++ rest))) = parts_of is_blank h.verb.rest ∙ ap (λ (t : List ℕ). second ++ t) (h.name.word.taken.whole ∙ ap (λ (t : List ℕ). h.name.word.taken.written ++ t) counted) in
    let verbed : word_rest ≡ first ++ (h.verb.word.taken.written ++ (second ++ (h.name.word.taken.written ++ (third ++ (digits ++ rest))))) = parts_of is_blank word_rest ∙ ap (λ (t : List ℕ). first ++ t) (h.verb.word.taken.whole ∙ ap (λ (t : List ℕ). h.verb.word.taken.written ++ t) named) in
    record {
      gap = take_while is_blank text;
      word = word.taken.written;
      first = first;
      verb = h.verb.word.taken.written;
      second = second;
      name = h.name.word.taken.written;
      part = h.part;
      third = third;
      digits = digits;
      rest = rest;
      whole = parts_of is_blank text ∙ ap (λ (t : List ℕ). take_while is_blank text ++ t) (word.taken.whole ∙ ap (λ (t : List ℕ). word.taken.written ++ t) verbed);
      gap_is = blanks_of text;
      word_is = word.taken.spells;
      first_is = room_of word_rest word.stops h.verb.word.begins;
      verb_is = h.verb.word.taken.spells;
      second_is = room_of h.verb.rest h.verb.word.stops h.name.word.begins;
      name_is = h.name.word.taken.spells;
      third_is = room_of h.name.rest h.name.word.stops (number_begins inner h.counted.number);
      number = h.counted.number;
      wrong = h.counted.wrong;
      ended = ends_of rest (past_stops in_word inner);
    }

pub wrong_found : (text : List ℕ) → Prints text → form_at text ≡ Err faults.Count → HasWrongCount text
unfolding form_at
wrong_found text prints e =
    let a = bind_count (name_at (past is_blank text)) (λ first. cond (bytes_eq first.0 (codes "PCB")) (open_at first.1) (cond (bytes_eq first.0 (codes "REORG")) (reorg_at first.1) (call_at first.0 first.1))) (name_no_count (past is_blank text)) e in
    let word = name_taken (past is_blank text) a.value.0 a.value.1 (past_prints text prints) a.read in
    by_case a.value.0 a.value.1 word word.taken.prints (bytes_eq a.value.0 (codes "PCB")) (bytes_eq a.value.0 (codes "REORG")) refl refl a.fails
  where
    by_case : (name rest : List ℕ) → WordTaken (λ w. SpellsName w name) (past is_blank text) rest → Prints rest → (v w : Bool) → bytes_eq name (codes "PCB") ≡ v → bytes_eq name (codes "REORG") ≡ w → cond v (open_at rest) (cond w (reorg_at rest) (call_at name rest)) ≡ Err faults.Count → HasWrongCount text
    by_case name rest word p true w hv hw h = absurd (no_five (run (at at_session) rest) (calls_run (at at_session) rest refl) (open_walk rest ∙ ap (λ (r : Result Line Fault). then r none_left) h))
    by_case name rest word p false true hv hw h = wrong_of text rest (subst (λ (n : List ℕ). WordTaken (λ t. SpellsName t n) (past is_blank text) rest) (same_bytes name (codes "REORG") hw) word) (reorg_wrong rest p h)
    by_case name rest word p false false hv hw h = absurd (no_five (run (at at_func) rest) (calls_run (at at_func) rest refl) (call_walk name rest p ∙ ap (λ (r : Result Line Fault). then r none_left) h))
