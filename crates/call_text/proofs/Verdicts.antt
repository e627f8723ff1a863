-- The verdict where a text can go no further.
use Rattle.std.proofs.Common.{◌≡◌, ℕ, ◌⊎◌, inl, inr, Bool, true, false, not, cond, ◌==◌, List, [], ◌∷◌, ◌++◌, map, refl, sym, ap, subst, ◌∙◌, codes}
use Rattle.std.specs.List.{take_while}
use Rattle.std.specs.Str.{bytes_eq}
use Rattle.hal_base.specs.Name.{upper}
use Rattle.call_text.specs.declared.fault.Fault.{Fault}
use Rattle.call_text.specs.declared.fault.Fault.TheVariants as faults
use Rattle.call_text.specs.Words.{in_word, past, is_number}
use Rattle.call_text.specs.Reading.{cause_of}
use Rattle.call_text.specs.Faults.{is_open}
use Rattle.call_text.proofs.Runs.{Stops}
use Rattle.call_text.proofs.States.{Kind, Place, State, a_first, a_func, a_seg, a_code, a_field, an_operator, a_session, an_option, an_index, a_verb, a_part, a_count, at_first, at_func, behind_seg, at_code, between, at_field, behind_field, behind_operator, in_signs, at_value, in_text, at_quote, at_mark, hex_none, hex_odd, hex_even, behind_clause, at_session, at_option, at_index, at_verb, at_part, at_count, at_end, at, within, dead, over, fits, begins, bad, after, stuck, place_step, word_step, step, run, ends, judge}
use Rattle.call_text.proofs.StateWords.{dead_run, stuck_run, word_run}
use Rattle.call_text.proofs.Fronts.{is_live}
use Rattle.call_text.proofs.Fronts.{Outcome, out_cond, out_grow, place_fault, place_out}
use Rattle.call_text.proofs.Quotes.{is_open_place, in_value, after_shut, step_value}
use Rattle.call_text.proofs.LineWalks.{end_walk}
use Rattle.call_text.specs.Reading.{is_end}

-- ---- as far as a text can go on

abbrev pub odd : Bool → Bool → Bool
odd true o = not o
odd false o = o

pub record Stopped (state : State) (text : List ℕ) : Type 0 where
  pub front : List ℕ
  pub rest : List ℕ
  pub whole : text ≡ front ++ rest
  pub live : is_live (run state front) ≡ true
  pub stops : Stops (λ b. is_live (step (run state front) b)) rest
  pub quotes : in_value (run state front) ≡ odd (is_open front) (in_value state)

odd_step : (q f o : Bool) → odd f (cond q (not o) o) ≡ odd (cond q (not f) f) o
odd_step true true true = refl
odd_step true true false = refl
odd_step true false true = refl
odd_step true false false = refl
odd_step false f o = refl

pub goes_as_far : (state : State) (text : List ℕ) → is_live state ≡ true → Stopped state text
goes_as_far state [] live = record { front = []; rest = []; whole = refl; live = live; stops = tt; quotes = refl }
goes_as_far state (b ∷ text) live = by_case (is_live (step state b)) refl (λ h. goes_as_far (step state b) text h)
  where
    by_case : (v : Bool) → is_live (step state b) ≡ v → (is_live (step state b) ≡ true → Stopped (step state b) text) → Stopped state (b ∷ text)
    by_case true e further =
        let s = further e in
        record { front = b ∷ s.front; rest = s.rest; whole = ap (λ (t : List ℕ). b ∷ t) s.whole; live = s.live; stops = s.stops; quotes = s.quotes ∙ ap (odd (is_open s.front)) (step_value state b e) ∙ odd_step (b == 39) (is_open s.front) (in_value state) }
    by_case false e further = record { front = []; rest = b ∷ text; whole = refl; live = live; stops = e; quotes = refl }

-- ---- what stops a word

after_out : (kind : Kind) (name : List ℕ) (b : ℕ) → Outcome faults.Form (place_step (after kind name) b)
after_out a_first name b = two (bytes_eq name (codes "PCB")) (bytes_eq name (codes "REORG"))
  where
    two : (p r : Bool) → Outcome faults.Form (place_step (cond p at_session (cond r at_verb at_func)) b)
    two true r = place_out at_session b
    two false true = place_out at_verb b
    two false false = place_out at_func b
after_out a_func name b = place_out (between false false) b
after_out a_seg name b = place_out behind_seg b
after_out a_code name b = place_out (between true false) b
after_out a_field name b = place_out behind_field b
after_out an_operator name b = place_out behind_operator b
after_out a_session name b = place_out at_option b
after_out an_option name b = place_out at_index b
after_out an_index name b = place_out at_end b
after_out a_verb name b = place_out (at_part (bytes_eq name (codes "STEP"))) b
after_out (a_part true) name b = place_out at_count b
after_out (a_part false) name b = place_out at_end b
after_out a_count name b = place_out at_end b

-- words whose faults are all of one cause
record IsPlain (kind : Kind) : Type 0 where
  sticks : (w : List ℕ) → stuck kind w ≡ dead faults.Form
  bad_is : (w : List ℕ) → bad kind w ≡ faults.Form

word_out : (kind : Kind) (w : List ℕ) (b : ℕ) → IsPlain kind → Outcome faults.Form (word_step kind w b)
word_out kind w b h = out_cond faults.Form (in_word b) _ _ (out_grow kind (w ++ b ∷ []) (h.sticks (w ++ b ∷ []))) (out_cond faults.Form (fits kind w) _ _ (after_out kind (map upper w) b) (inr (ap (λ (x : Fault). dead x) (h.bad_is w))))

-- ---- a state that goes no further never reads a line

pub cause_some : (fault : Fault) → cause_of fault ≡ 0 → ⊥
cause_some faults.Form e = absurd cc
cause_some faults.Value e = absurd cc
cause_some faults.Count e = absurd cc

abbrev Dies : State → Type 0
Dies state = (more : List ℕ) → judge state more ≡ 0 → ⊥

abbrev GoesOrDies : State → Type 0
GoesOrDies state = (is_live state ≡ true) ⊎ Dies state

dead_dies : (fault : Fault) → Dies (dead fault)
dead_dies fault more e = cause_some fault (sym (dead_run fault more) ∙ e)

out_dies : (fault : Fault) (state : State) → Outcome fault state → GoesOrDies state
out_dies fault state (inl live) = inl live
out_dies fault state (inr is) = inr (subst Dies (sym is) (dead_dies fault))

dies_cond : (v : Bool) (x y : State) → GoesOrDies x → GoesOrDies y → GoesOrDies (cond v x y)
dies_cond true x y hx hy = hx
dies_cond false x y hx hy = hy

count_dies : (w : List ℕ) (b : ℕ) → GoesOrDies (word_step a_count w b)
count_dies w b = dies_cond (in_word b) _ _ (grown (begins a_count (w ++ b ∷ [])) refl) (dies_cond (fits a_count w) _ _ (out_dies faults.Form _ (place_out at_end b)) (inr (dead_dies (bad a_count w))))
  where
    grown : (v : Bool) → begins a_count (w ++ b ∷ []) ≡ v → GoesOrDies (cond v (within a_count (w ++ b ∷ [])) (stuck a_count (w ++ b ∷ [])))
    grown true e = inl e
    grown false e = inr (λ more h. cause_some (bad a_count ((w ++ b ∷ []) ++ take_while in_word more)) (sym (stuck_run a_count w b more) ∙ h))

goes_or_dies : (state : State) (b : ℕ) → is_live state ≡ true → GoesOrDies (step state b)
goes_or_dies (at place) b live = out_dies (place_fault place) _ (place_out place b)
goes_or_dies (within a_first w) b live = out_dies faults.Form _ (word_out a_first w b (record { sticks = λ x. refl; bad_is = λ x. refl }))
goes_or_dies (within a_func w) b live = out_dies faults.Form _ (word_out a_func w b (record { sticks = λ x. refl; bad_is = λ x. refl }))
goes_or_dies (within a_seg w) b live = out_dies faults.Form _ (word_out a_seg w b (record { sticks = λ x. refl; bad_is = λ x. refl }))
goes_or_dies (within a_code w) b live = out_dies faults.Form _ (word_out a_code w b (record { sticks = λ x. refl; bad_is = λ x. refl }))
goes_or_dies (within a_field w) b live = out_dies faults.Form _ (word_out a_field w b (record { sticks = λ x. refl; bad_is = λ x. refl }))
goes_or_dies (within an_operator w) b live = out_dies faults.Form _ (word_out an_operator w b (record { sticks = λ x. refl; bad_is = λ x. refl }))
goes_or_dies (within a_session w) b live = out_dies faults.Form _ (word_out a_session w b (record { sticks = λ x. refl; bad_is = λ x. refl }))
goes_or_dies (within an_option w) b live = out_dies faults.Form _ (word_out an_option w b (record { sticks = λ x. refl; bad_is = λ x. refl }))
goes_or_dies (within an_index w) b live = out_dies faults.Form _ (word_out an_index w b (record { sticks = λ x. refl; bad_is = λ x. refl }))
goes_or_dies (within a_verb w) b live = out_dies faults.Form _ (word_out a_verb w b (record { sticks = λ x. refl; bad_is = λ x. refl }))
goes_or_dies (within (a_part counted) w) b live = out_dies faults.Form _ (word_out (a_part counted) w b (record { sticks = λ x. refl; bad_is = λ x. refl }))
goes_or_dies (within a_count w) b live = count_dies w b
goes_or_dies (dead fault) b live = absurd cc
goes_or_dies over b live = absurd cc

pub never_a_line : (state : State) (b : ℕ) → is_live state ≡ true → is_live (step state b) ≡ false → (more : List ℕ) → judge (step state b) more ≡ 0 → ⊥
never_a_line state b live ends_here more e = by_case (goes_or_dies state b live)
  where
    by_case : GoesOrDies (step state b) → ⊥
    by_case (inl goes) = let no_way : false ≡ true = sym ends_here ∙ goes in absurd cc
    by_case (inr dies) = dies more e

-- ---- the verdict within a value, and elsewhere

open_ends : (place : Place) → is_open_place place ≡ true → (ends place ≡ 4) × (cause_of (place_fault place) ≡ 4)
open_ends at_first h = absurd cc
open_ends at_func h = absurd cc
open_ends behind_seg h = absurd cc
open_ends at_code h = absurd cc
open_ends (between opens spaced) h = absurd cc
open_ends at_field h = absurd cc
open_ends behind_field h = absurd cc
open_ends behind_operator h = absurd cc
open_ends in_signs h = absurd cc
open_ends (at_value content) h = absurd cc
open_ends (in_text content) h = (refl, refl)
open_ends (at_quote content) h = absurd cc
open_ends (at_mark content) h = absurd cc
open_ends (hex_none content) h = (refl, refl)
open_ends (hex_odd content) h = (refl, refl)
open_ends (hex_even content) h = (refl, refl)
open_ends behind_clause h = absurd cc
open_ends at_session h = absurd cc
open_ends at_option h = absurd cc
open_ends at_index h = absurd cc
open_ends at_verb h = absurd cc
open_ends (at_part counted) h = absurd cc
open_ends at_count h = absurd cc
open_ends at_end h = absurd cc

shut_ends : (place : Place) → is_open_place place ≡ false → (ends place ≡ 4 → ⊥) × (cause_of (place_fault place) ≡ 4 → ⊥)
shut_ends at_first h = (λ e. absurd cc, λ e. absurd cc)
shut_ends at_func h = (λ e. absurd cc, λ e. absurd cc)
shut_ends behind_seg h = (λ e. absurd cc, λ e. absurd cc)
shut_ends at_code h = (λ e. absurd cc, λ e. absurd cc)
shut_ends (between opens spaced) h = (λ e. absurd cc, λ e. absurd cc)
shut_ends at_field h = (λ e. absurd cc, λ e. absurd cc)
shut_ends behind_field h = (λ e. absurd cc, λ e. absurd cc)
shut_ends behind_operator h = (λ e. absurd cc, λ e. absurd cc)
shut_ends in_signs h = (λ e. absurd cc, λ e. absurd cc)
shut_ends (at_value content) h = (λ e. absurd cc, λ e. absurd cc)
shut_ends (in_text content) h = absurd cc
shut_ends (at_quote true) h = (λ e. absurd cc, λ e. absurd cc)
shut_ends (at_quote false) h = (λ e. absurd cc, λ e. absurd cc)
shut_ends (at_mark content) h = (λ e. absurd cc, λ e. absurd cc)
shut_ends (hex_none content) h = absurd cc
shut_ends (hex_odd content) h = absurd cc
shut_ends (hex_even content) h = absurd cc
shut_ends behind_clause h = (λ e. absurd cc, λ e. absurd cc)
shut_ends at_session h = (λ e. absurd cc, λ e. absurd cc)
shut_ends at_option h = (λ e. absurd cc, λ e. absurd cc)
shut_ends at_index h = (λ e. absurd cc, λ e. absurd cc)
shut_ends at_verb h = (λ e. absurd cc, λ e. absurd cc)
shut_ends (at_part counted) h = (λ e. absurd cc, λ e. absurd cc)
shut_ends at_count h = (λ e. absurd cc, λ e. absurd cc)
shut_ends at_end h = (λ e. absurd cc, λ e. absurd cc)

-- the verdict is that of the fault
out_verdict : (fault : Fault) (state : State) (more : List ℕ) → Outcome fault state → is_live state ≡ false → judge state more ≡ cause_of fault
out_verdict fault state more (inl live) stops = let no_way : false ≡ true = sym stops ∙ live in absurd cc
out_verdict fault state more (inr is) stops = ap (λ (s : State). judge s more) is ∙ dead_run fault more

pub value_verdict : (state : State) (rest : List ℕ) → in_value state ≡ true → Stops (λ b. is_live (step state b)) rest → judge state rest ≡ 4
value_verdict (at place) [] h stops = (open_ends place h).0
value_verdict (at place) (b ∷ rest) h stops = out_verdict (place_fault place) (place_step place b) rest (place_out place b) stops ∙ (open_ends place h).1
value_verdict (within kind w) rest h stops = absurd cc
value_verdict (dead fault) rest h stops = absurd cc
value_verdict over rest h stops = absurd cc

not_four : (v : Bool) (x y : ℕ) → (x ≡ 4 → ⊥) → (y ≡ 4 → ⊥) → cond v x y ≡ 4 → ⊥
not_four true x y hx hy e = hx e
not_four false x y hx hy e = hy e

bad_four : (fault : Fault) → fault ≡ faults.Form → cause_of fault ≡ 4 → ⊥
bad_four fault is e = let no_way : cause_of faults.Form ≡ 4 = sym (ap cause_of is) ∙ e in absurd cc

plain_verdict : (kind : Kind) (w rest : List ℕ) → IsPlain kind → Stops (λ b. is_live (word_step kind w b)) rest → judge (within kind w) rest ≡ 4 → ⊥
plain_verdict kind w [] h stops e = not_four (fits kind w) (ends (after kind (map upper w))) (cause_of (bad kind w)) (shut_ends (after kind (map upper w)) (after_shut kind (map upper w))).0 (bad_four (bad kind w) (h.bad_is w)) e
plain_verdict kind w (b ∷ rest) h stops e =
    let is : judge (word_step kind w b) rest ≡ cause_of faults.Form = out_verdict faults.Form (word_step kind w b) rest (word_out kind w b h) stops in
    bad_four faults.Form refl (sym is ∙ e)

count_verdict : (w rest : List ℕ) → judge (within a_count w) rest ≡ 4 → ⊥
count_verdict w rest e = not_four (fits a_count word) (judge (at at_end) left) (cause_of (bad a_count word)) (λ k. not_four (is_end left) 0 3 (λ h. absurd cc) (λ h. absurd cc) (sym (end_walk left) ∙ k)) (bad_cause (is_number word)) (sym (word_run a_count w rest) ∙ e)
  where
    word : List ℕ
    word = w ++ take_while in_word rest

    left : List ℕ
    left = past in_word rest

    bad_cause : (v : Bool) → cause_of (cond v faults.Count faults.Form) ≡ 4 → ⊥
    bad_cause true k = absurd cc
    bad_cause false k = absurd cc

pub other_verdict : (state : State) (rest : List ℕ) → is_live state ≡ true → in_value state ≡ false → Stops (λ b. is_live (step state b)) rest → judge state rest ≡ 4 → ⊥
other_verdict (at place) [] live h stops e = (shut_ends place h).0 e
other_verdict (at place) (b ∷ rest) live h stops e = (shut_ends place h).1 (sym (out_verdict (place_fault place) (place_step place b) rest (place_out place b) stops) ∙ e)
other_verdict (within a_first w) rest live h stops e = plain_verdict a_first w rest (record { sticks = λ x. refl; bad_is = λ x. refl }) stops e
other_verdict (within a_func w) rest live h stops e = plain_verdict a_func w rest (record { sticks = λ x. refl; bad_is = λ x. refl }) stops e
other_verdict (within a_seg w) rest live h stops e = plain_verdict a_seg w rest (record { sticks = λ x. refl; bad_is = λ x. refl }) stops e
other_verdict (within a_code w) rest live h stops e = plain_verdict a_code w rest (record { sticks = λ x. refl; bad_is = λ x. refl }) stops e
other_verdict (within a_field w) rest live h stops e = plain_verdict a_field w rest (record { sticks = λ x. refl; bad_is = λ x. refl }) stops e
other_verdict (within an_operator w) rest live h stops e = plain_verdict an_operator w rest (record { sticks = λ x. refl; bad_is = λ x. refl }) stops e
other_verdict (within a_session w) rest live h stops e = plain_verdict a_session w rest (record { sticks = λ x. refl; bad_is = λ x. refl }) stops e
other_verdict (within an_option w) rest live h stops e = plain_verdict an_option w rest (record { sticks = λ x. refl; bad_is = λ x. refl }) stops e
other_verdict (within an_index w) rest live h stops e = plain_verdict an_index w rest (record { sticks = λ x. refl; bad_is = λ x. refl }) stops e
other_verdict (within a_verb w) rest live h stops e = plain_verdict a_verb w rest (record { sticks = λ x. refl; bad_is = λ x. refl }) stops e
other_verdict (within (a_part counted) w) rest live h stops e = plain_verdict (a_part counted) w rest (record { sticks = λ x. refl; bad_is = λ x. refl }) stops e
other_verdict (within a_count w) rest live h stops e = count_verdict w rest e
other_verdict (dead fault) rest live h stops e = absurd cc
other_verdict over rest live h stops e = absurd cc
