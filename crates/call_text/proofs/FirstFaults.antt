-- The first fault of a line, and its cause.
use Rattle.hal_base.specs.Bytes.{is_printable}
use Rattle.std.proofs.Common.{◌≡◌, ℕ, Bool, true, false, cond, nat_lt, List, [], ◌∷◌, ◌++◌, length, Result, Ok, Err, refl, sym, ap, subst, ◌∙◌, append_assoc, arith, append-nil, ap₂}
use Rattle.std.specs.List.{list_all, take_while}
use Rattle.std.proofs.lemmas.Bool.{ltb-false, ltb-true}
use Rattle.std.proofs.lemmas.List.Folds.{list_all-append}
use Rattle.call_text.specs.declared.fault.Fault.{Fault}
use Rattle.call_text.specs.declared.fault.Fault.TheVariants as faults
use Rattle.call_text.specs.declared.line.Line.{Line}
use Rattle.call_text.specs.declared.line.Line.TheVariants as lines
use Rattle.call_text.specs.Words.{is_blank, past, is_silent}
use Rattle.call_text.specs.Faults.{Begins, EndsAt, FirstFault, is_open, IsWrongCount, HasFault, IsBadBy, IsCaused}
use Rattle.call_text.specs.Reading.{cause_of, form_at, line_or_cause, line_of}
use Rattle.call_text.proofs.Runs.{Stops}
use Rattle.call_text.proofs.ValuesPrinted.{Prints}
use Rattle.call_text.proofs.Taken.{parts_of, blanks_of, prints_parts}
use Rattle.call_text.proofs.LinesAgain.{form_again}
use Rattle.call_text.proofs.LinesTaken.{form_taken}
use Rattle.call_text.proofs.States.{State, at_first, at, step, run, verdict, judge}
use Rattle.call_text.proofs.Walks.{then}
use Rattle.call_text.proofs.LineWalks.{none_left}
use Rattle.call_text.proofs.FormWalks.{form_walk}
use Rattle.call_text.proofs.Fronts.{is_live, run_append}
use Rattle.call_text.proofs.Finishing.{finishes}
use Rattle.call_text.proofs.Verdicts.{odd, goes_as_far, cause_some, never_a_line, value_verdict, other_verdict}
use Rattle.call_text.proofs.WrongCounts.{HasWrongCount, wrong_read, wrong_found}
use Rattle.call_text.proofs.FaultsAtCounts.{begins_front, wrong_at, wrong_at_fault}

abbrev start : State
start = at at_first

judge_append : (a b : List ℕ) → judge start (a ++ b) ≡ judge (run start a) b
judge_append a b = ap verdict (run_append start a b)

abbrev FormRead : Result Line Fault → Type 0
FormRead read = (line : Line) × (read ≡ Ok line)

form_read : (read : Result Line Fault) → then read none_left ≡ 0 → FormRead read
form_read (Ok line) e = (line, refl)
form_read (Err fault) e = absurd (cause_some fault e)

-- a front in whose state a line goes on begins some form
begins_so : (front : List ℕ) → Prints front → is_live (run start front) ≡ true → Begins front
begins_so front prints live =
    let f = finishes (run start front) live in
    let text = front ++ f.more in
    let shown : Prints text = list_all-append is_printable front f.more ∙ rw (prints, f.prints) refl in
    let judged : judge start text ≡ 0 = judge_append front f.more ∙ f.done in
    let read = form_read (form_at text) (sym (form_walk text shown) ∙ judged) in
    record {
      more = f.more;
      gap = take_while is_blank text;
      form = past is_blank text;
      line = read.0;
      whole = parts_of is_blank text;
      printable = shown;
      gap_is = blanks_of text;
      form_is = form_taken text read.0 shown read.1;
    }

-- and where none goes on, no form begins so
ends_so : (front : List ℕ) (b : ℕ) → is_live (run start front) ≡ true → is_live (step (run start front) b) ≡ false → Begins (front ++ b ∷ []) → ⊥
ends_so front b live stops h =
    let text = (front ++ b ∷ []) ++ h.more in
    let read : form_at text ≡ Ok h.line = ap form_at h.whole ∙ form_again h.gap h.form h.line h.gap_is h.form_is in
    let judged : judge start text ≡ 0 = form_walk text h.printable ∙ ap (λ (r : Result Line Fault). then r none_left) read in
    let regrouped : text ≡ front ++ (b ∷ h.more) = append_assoc front (b ∷ []) h.more in
    never_a_line (run start front) b live stops h.more (sym (judge_append front (b ∷ h.more)) ∙ ap (judge start) (sym regrouped) ∙ judged)

longest_so : (front rest : List ℕ) → is_live (run start front) ≡ true → Stops (λ b. is_live (step (run start front) b)) rest → EndsAt front rest
longest_so front [] live stops = tt
longest_so front (b ∷ rest) live stops = λ h. ends_so front b live stops h

count_is : (fault : Fault) → faults.Count ≡ fault → cause_of fault ≡ 5
count_is fault e = sym (ap cause_of e)

err_is : (a b : Fault) (text : List ℕ) → form_at text ≡ Err a → form_at text ≡ Err b → cause_of a ≡ cause_of b
err_is a b text ha hb = ap (λ (r : Result Line Fault). then r none_left) (sym ha ∙ hb)

fault_found : (text : List ℕ) (fault : Fault) → Prints text → form_at text ≡ Err fault → HasFault text (cause_of fault)
fault_found text fault prints e =
    let s = goes_as_far start text refl in
    let shown : Prints s.front = (prints_parts s.front s.rest text s.whole prints).0 in
    let judged : judge (run start s.front) s.rest ≡ cause_of fault = sym (judge_append s.front s.rest) ∙ ap (judge start) (sym s.whole) ∙ form_walk text prints ∙ ap (λ (r : Result Line Fault). then r none_left) e in
    let first : FirstFault text s.front s.rest = record { whole = s.whole; begins = begins_so s.front shown s.live; longest = longest_so s.front s.rest s.live s.stops } in
    record {
      front = s.front;
      rest = s.rest;
      fault = first;
      cause_is = record {
        open_value = λ open_is. sym judged ∙ value_verdict (run start s.front) s.rest (s.quotes ∙ ap (λ (v : Bool). odd v false) open_is) s.stops;
        wrong_count = λ wrong. err_is fault faults.Count text e (ap form_at s.whole ∙ wrong_read (s.front ++ s.rest) (wrong_at s.front s.rest wrong));
        else_form = λ shut none_wrong. form_left fault s.front s.rest first e (λ k. other_verdict (run start s.front) s.rest s.live (s.quotes ∙ ap (λ (v : Bool). odd v false) shut) s.stops (judged ∙ k)) none_wrong;
      };
    }
  where
    form_left : (fault : Fault) (front rest : List ℕ) → FirstFault text front rest → form_at text ≡ Err fault → (cause_of fault ≡ 4 → ⊥) → (IsWrongCount front rest → ⊥) → cause_of fault ≡ 3
    form_left faults.Form front rest first e no_four none_wrong = refl
    form_left faults.Value front rest first e no_four none_wrong = absurd (no_four refl)
    form_left faults.Count front rest first e no_four none_wrong = absurd (none_wrong (wrong_at_fault text front rest prints first (wrong_found text prints e)))

-- ---- the line

abbrev bad_line : ℕ → Line
bad_line cause = lines.Bad cause

cause_same : (a b : ℕ) → bad_line a ≡ bad_line b → a ≡ b
cause_same a b e = cc

read_bad : (text : List ℕ) (cause : ℕ) (read : Result Line Fault) → Prints text → form_at text ≡ read → line_or_cause read ≡ bad_line cause → HasFault text cause
read_bad text cause (Ok line) prints is e = absurd (form_taken text (lines.Bad cause) prints (is ∙ ap (λ (l : Line). Ok l) e))
read_bad text cause (Err fault) prints is e = subst (HasFault text) (cause_same (cause_of fault) cause e) (fault_found text fault prints is)

bad_by : (text : List ℕ) (cause : ℕ) → line_of text ≡ bad_line cause → IsBadBy text cause
unfolding line_of
bad_by text cause e = by_case (is_silent text) (nat_lt 8192 (length text)) (list_all is_printable text) refl refl e
  where
    by_case : (s l p : Bool) → nat_lt 8192 (length text) ≡ l → list_all is_printable text ≡ p → cond s lines.Silent (cond l (lines.Bad 1) (cond p (line_or_cause (form_at text)) (lines.Bad 2))) ≡ bad_line cause → IsBadBy text cause
    by_case true l p hl hp h = absurd cc
    by_case false true p hl hp h = record { too_long = λ k. sym (cause_same 1 cause h); odd_byte = λ k j. absurd (omega (arith, ltb-true 8192 (length text) hl, k)); first_fault = λ k j. absurd (omega (arith, ltb-true 8192 (length text) hl, k)) }
    by_case false false true hl hp h = record { too_long = λ k. absurd (omega (arith, ltb-false 8192 (length text) hl, k)); odd_byte = λ k j. (let no_way : true ≡ false = sym hp ∙ j in absurd cc); first_fault = λ k j. read_bad text cause (form_at text) hp refl h }
    by_case false false false hl hp h = record { too_long = λ k. absurd (omega (arith, ltb-false 8192 (length text) hl, k)); odd_byte = λ k j. sym (cause_same 2 cause h); first_fault = λ k j. (let no_way : false ≡ true = sym hp ∙ j in absurd cc) }

pub line_caused : (text : List ℕ) (line : Line) → line_of text ≡ line → IsCaused text line
line_caused text lines.Silent e = tt
line_caused text (lines.Call call) e = tt
line_caused text (lines.Open request) e = tt
line_caused text (lines.Reorg part command) e = tt
line_caused text (lines.Bad cause) e = bad_by text cause e

-- ---- one cause

-- a text has one longest front
same_front : (before a b : List ℕ) (r t : List ℕ) → a ++ r ≡ b ++ t → Begins (before ++ a) → EndsAt (before ++ a) r → Begins (before ++ b) → EndsAt (before ++ b) t → a ≡ b
same_front before [] [] r t e begins_a ends_a begins_b ends_b = refl
same_front before [] (y ∷ b) r t e begins_a ends_a begins_b ends_b = absurd ((subst (EndsAt (before ++ [])) e ends_a) (further before y b begins_b))
  where
    further : (before : List ℕ) (y : ℕ) (b : List ℕ) → Begins (before ++ (y ∷ b)) → Begins ((before ++ []) ++ y ∷ [])
    further before y b h = subst (λ (f : List ℕ). Begins (f ++ y ∷ [])) (sym (append-nil before)) (begins_front before y b h)
same_front before (x ∷ a) [] r t e begins_a ends_a begins_b ends_b = absurd ((subst (EndsAt (before ++ [])) (sym e) ends_b) (further before x a begins_a))
  where
    further : (before : List ℕ) (y : ℕ) (b : List ℕ) → Begins (before ++ (y ∷ b)) → Begins ((before ++ []) ++ y ∷ [])
    further before y b h = subst (λ (f : List ℕ). Begins (f ++ y ∷ [])) (sym (append-nil before)) (begins_front before y b h)
same_front before (x ∷ a) (y ∷ b) r t e begins_a ends_a begins_b ends_b =
    let heads : x ≡ y = cc in
    let tails : a ++ r ≡ b ++ t = cc in
    let move_a : before ++ (x ∷ a) ≡ (before ++ x ∷ []) ++ a = sym (append_assoc before (x ∷ []) a) in
    let move_b : before ++ (y ∷ b) ≡ (before ++ x ∷ []) ++ b = sym (ap (λ (z : ℕ). (before ++ z ∷ []) ++ b) heads ∙ append_assoc before (y ∷ []) b) in
    ap₂ (λ (z : ℕ) (w : List ℕ). z ∷ w) heads (same_front (before ++ x ∷ []) a b r t tails (subst Begins move_a begins_a) (subst (λ (f : List ℕ). EndsAt f r) move_a ends_a) (subst Begins move_b begins_b) (subst (λ (f : List ℕ). EndsAt f t) move_b ends_b))

not_count : (text : List ℕ) (fault : Fault) → (cause_of fault ≡ 5 → ⊥) → form_at text ≡ Err fault → form_at text ≡ Err faults.Count → ⊥
not_count text fault other is e = other (err_is fault faults.Count text is e)

same_fault : (text : List ℕ) (a b : ℕ) → Prints text → HasFault text a → HasFault text b → a ≡ b
same_fault text a b prints first second = by_case (is_open first.front) refl
  where
    fronts : first.front ≡ second.front
    fronts = same_front [] first.front second.front first.rest second.rest (sym first.fault.whole ∙ second.fault.whole) first.fault.begins first.fault.longest second.fault.begins second.fault.longest

    counted : HasWrongCount text → a ≡ b
    counted h = first.cause_is.wrong_count (wrong_at_fault text first.front first.rest prints first.fault h) ∙ sym (second.cause_is.wrong_count (wrong_at_fault text second.front second.rest prints second.fault h))

    -- neither front is at a wrong count where the text isn't read as one
    formed : is_open first.front ≡ false → (form_at text ≡ Err faults.Count → ⊥) → a ≡ b
    formed shut never = first.cause_is.else_form shut (λ h. never (ap form_at first.fault.whole ∙ wrong_read (first.front ++ first.rest) (wrong_at first.front first.rest h))) ∙ sym (second.cause_is.else_form (ap is_open (sym fronts) ∙ shut) (λ h. never (ap form_at second.fault.whole ∙ wrong_read (second.front ++ second.rest) (wrong_at second.front second.rest h))))

    shut_case : is_open first.front ≡ false → (read : Result Line Fault) → form_at text ≡ read → a ≡ b
    shut_case shut (Ok line) is = formed shut (λ e. (let no_way : Ok line ≡ Err faults.Count = sym is ∙ e in absurd cc))
    shut_case shut (Err faults.Form) is = formed shut (λ e. not_count text faults.Form (λ k. absurd cc) is e)
    shut_case shut (Err faults.Value) is = formed shut (λ e. not_count text faults.Value (λ k. absurd cc) is e)
    shut_case shut (Err faults.Count) is = counted (wrong_found text prints is)

    by_case : (v : Bool) → is_open first.front ≡ v → a ≡ b
    by_case true e = first.cause_is.open_value e ∙ sym (second.cause_is.open_value (ap is_open (sym fronts) ∙ e))
    by_case false e = shut_case e (form_at text) refl

pub one_bad_cause : (text : List ℕ) (a b : ℕ) → IsBadBy text a → IsBadBy text b → a ≡ b
one_bad_cause text a b first second = by_case (nat_lt 8192 (length text)) (list_all is_printable text) refl refl
  where
    by_case : (l p : Bool) → nat_lt 8192 (length text) ≡ l → list_all is_printable text ≡ p → a ≡ b
    by_case true p hl hp = first.too_long (ltb-true 8192 (length text) hl) ∙ sym (second.too_long (ltb-true 8192 (length text) hl))
    by_case false true hl hp = same_fault text a b hp (first.first_fault (ltb-false 8192 (length text) hl) hp) (second.first_fault (ltb-false 8192 (length text) hl) hp)
    by_case false false hl hp = first.odd_byte (ltb-false 8192 (length text) hl) hp ∙ sym (second.odd_byte (ltb-false 8192 (length text) hl) hp)
