-- Fronts that go on to a line, and fronts that don't.
use Rattle.std.proofs.Common.{◌≡◌, ℕ, ◌-◌, ◌≤◌, ◌&&◌, ◌||◌, ◌⊎◌, inl, inr, Bool, true, false, cond, nat_le, ◌==◌, List, [], ◌∷◌, ◌++◌, refl, sym, ◌∙◌, arith}
use Rattle.std.specs.List.{list_all}
use Rattle.std.proofs.lemmas.Bool.Decides.{nat_tests}
use Rattle.hal_base.specs.Name.{is_digit, upper}
use Rattle.call_text.specs.declared.fault.Fault.{Fault}
use Rattle.call_text.specs.declared.fault.Fault.TheVariants as faults
use Rattle.call_text.specs.Printed.{is_sign}
use Rattle.call_text.specs.Words.{is_blank, in_word, is_count, is_hex}
use Rattle.call_text.proofs.Runs.{both}
use Rattle.call_text.proofs.States.{Kind, Place, State, a_first, a_func, a_seg, a_code, a_field, an_operator, a_session, an_option, an_index, a_verb, a_part, a_count, at_first, at_func, behind_seg, at_code, between, at_field, behind_field, behind_operator, in_signs, at_value, in_text, at_quote, at_mark, hex_none, hex_odd, hex_even, behind_clause, at_session, at_option, at_index, at_verb, at_part, at_count, at_end, at, within, dead, over, begins_count, begins, after_step, value_step, between_step, end_step, clause_step, enter, grow, stuck, gap_or, place_step, step, run}

-- a state in which a line can go on
abbrev pub is_live : State → Bool
is_live (at place) = true
is_live (within kind w) = begins kind w
is_live (dead fault) = false
is_live over = false

pub run_append : (state : State) (a b : List ℕ) → run state (a ++ b) ≡ run (run state a) b
run_append state [] b = refl
run_append state (x ∷ a) b = run_append (step state x) a b

-- ---- where a line cannot go on

-- a state goes on, or is dead by a fault
abbrev pub Outcome : Fault → State → Type 0
Outcome fault state = (is_live state ≡ true) ⊎ (state ≡ dead fault)

pub out_cond : (fault : Fault) (v : Bool) (x y : State) → Outcome fault x → Outcome fault y → Outcome fault (cond v x y)
out_cond fault true x y hx hy = hx
out_cond fault false x y hx hy = hy

-- the fault at a place
abbrev pub place_fault : Place → Fault
place_fault at_first = faults.Form
place_fault at_func = faults.Form
place_fault behind_seg = faults.Form
place_fault at_code = faults.Form
place_fault (between opens spaced) = faults.Form
place_fault at_field = faults.Form
place_fault behind_field = faults.Form
place_fault behind_operator = faults.Form
place_fault in_signs = faults.Form
place_fault (at_value content) = faults.Form
place_fault (in_text content) = faults.Value
place_fault (at_quote content) = faults.Form
place_fault (at_mark content) = faults.Form
place_fault (hex_none content) = faults.Value
place_fault (hex_odd content) = faults.Value
place_fault (hex_even content) = faults.Value
place_fault behind_clause = faults.Form
place_fault at_session = faults.Form
place_fault at_option = faults.Form
place_fault at_index = faults.Form
place_fault at_verb = faults.Form
place_fault (at_part counted) = faults.Form
place_fault at_count = faults.Form
place_fault at_end = faults.Form

abbrev formed : Kind → Type 0
formed kind = (w : List ℕ) → stuck kind w ≡ dead faults.Form

pub out_grow : (kind : Kind) (w : List ℕ) → stuck kind w ≡ dead faults.Form → Outcome faults.Form (grow kind w)
out_grow kind w h = by_case (begins kind w) refl
  where
    by_case : (v : Bool) → begins kind w ≡ v → Outcome faults.Form (cond v (within kind w) (stuck kind w))
    by_case true e = inl e
    by_case false e = inr h

out_enter : (kind : Kind) → formed kind → (b : ℕ) → Outcome faults.Form (enter kind b)
out_enter kind h b = out_cond faults.Form (in_word b) _ _ (out_grow kind (b ∷ []) (h (b ∷ []))) (inr refl)

out_gap : (place : Place) (kind : Kind) → formed kind → (b : ℕ) → Outcome faults.Form (gap_or place kind b)
out_gap place kind h b = out_cond faults.Form (is_blank b) _ _ (inl refl) (out_enter kind h b)

out_value : (content : Bool) (b : ℕ) → Outcome faults.Form (value_step content b)
out_value content b = out_cond faults.Form (is_blank b) _ _ (inl refl) (out_cond faults.Form (b == 39) _ _ (inl refl) (out_cond faults.Form (upper b == 88) _ _ (inl refl) (inr refl)))

out_end : (b : ℕ) → Outcome faults.Form (end_step b)
out_end b = out_cond faults.Form (is_blank b) _ _ (inl refl) (inr refl)

out_clause : (b : ℕ) → Outcome faults.Form (clause_step b)
out_clause b = out_cond faults.Form (is_blank b) _ _ (inl refl) (out_cond faults.Form (b == 41) _ _ (inl refl) (out_cond faults.Form (b == 38 || b == 42) _ _ (inl refl) (out_cond faults.Form (b == 124 || b == 43) _ _ (inl refl) (inr refl))))

out_after : (content : Bool) (b : ℕ) → Outcome faults.Form (after_step content b)
out_after true b = out_end b
out_after false b = out_clause b

out_between : (opens spaced : Bool) (b : ℕ) → Outcome faults.Form (between_step opens spaced b)
out_between opens spaced b = out_cond faults.Form (is_blank b) _ _ (inl refl) (out_cond faults.Form (opens && b == 40) _ _ (inl refl) (out_cond faults.Form (b == 58) _ _ (inl refl) (out_cond faults.Form spaced _ _ (out_enter a_seg (λ w. refl) b) (inr refl))))

-- a digit begins a count
digit_begins : (b : ℕ) → is_digit b ≡ true → begins_count (b ∷ []) ≡ true
digit_begins b h =
    let range = both (nat_le 48 b) (nat_le b 57) h in
    let low : 48 ≤ b = grind (arith, nat_tests, range.0) in
    let high : b ≤ 57 = grind (arith, nat_tests, range.1) in
    rw h (by_case (nat_le 1 (b - 48)) refl low high)
  where
    by_case : (v : Bool) → nat_le 1 (b - 48) ≡ v → 48 ≤ b → b ≤ 57 → (is_count (b ∷ []) || is_count (b ∷ 49 ∷ [])) ≡ true
    by_case v e low high = grind (arith, nat_tests, e, low, high)

out_count : (b : ℕ) → Outcome faults.Form (enter a_count b)
out_count b = out_cond faults.Form (in_word b) _ _ (by_case (begins_count (b ∷ [])) refl) (inr refl)
  where
    by_case : (v : Bool) → begins_count (b ∷ []) ≡ v → Outcome faults.Form (cond v (within a_count (b ∷ [])) (cond (list_all is_digit (b ∷ [])) over (dead faults.Form)))
    by_case true e = inl e
    by_case false e = digit (is_digit b) refl
      where
        digit : (v : Bool) → is_digit b ≡ v → Outcome faults.Form (cond (v && true) over (dead faults.Form))
        digit true h = let no_way : true ≡ false = sym (digit_begins b h) ∙ e in absurd cc
        digit false h = inr refl

pub place_out : (place : Place) (b : ℕ) → Outcome (place_fault place) (place_step place b)
place_out at_first b = out_gap at_first a_first (λ w. refl) b
place_out at_func b = out_gap at_func a_func (λ w. refl) b
place_out behind_seg b = out_cond faults.Form (b == 42) _ _ (inl refl) (out_between true false b)
place_out at_code b = out_enter a_code (λ w. refl) b
place_out (between opens spaced) b = out_between opens spaced b
place_out at_field b = out_gap at_field a_field (λ w. refl) b
place_out behind_field b = out_cond faults.Form (is_blank b) _ _ (inl refl) (out_cond faults.Form (is_sign b) _ _ (inl refl) (out_enter an_operator (λ w. refl) b))
place_out behind_operator b = out_cond faults.Form (is_blank b) _ _ (inl refl) (inr refl)
place_out in_signs b = out_cond faults.Form (is_sign b) _ _ (inl refl) (out_value false b)
place_out (at_value content) b = out_value content b
place_out (in_text content) b = out_cond faults.Value (b == 39) _ _ (inl refl) (inl refl)
place_out (at_quote content) b = out_cond faults.Form (b == 39) _ _ (inl refl) (out_after content b)
place_out (at_mark content) b = out_cond faults.Form (b == 39) _ _ (inl refl) (inr refl)
place_out (hex_none content) b = out_cond faults.Value (is_hex b) _ _ (inl refl) (inr refl)
place_out (hex_odd content) b = out_cond faults.Value (is_hex b) _ _ (inl refl) (inr refl)
place_out (hex_even content) b = out_cond faults.Value (is_hex b) _ _ (inl refl) (out_cond faults.Value (b == 39) _ _ (inl refl) (inr refl))
place_out behind_clause b = out_clause b
place_out at_session b = out_gap at_session a_session (λ w. refl) b
place_out at_option b = out_gap at_option an_option (λ w. refl) b
place_out at_index b = out_gap at_index an_index (λ w. refl) b
place_out at_verb b = out_gap at_verb a_verb (λ w. refl) b
place_out (at_part counted) b = out_gap (at_part counted) (a_part counted) (λ w. refl) b
place_out at_count b = out_cond faults.Form (is_blank b) _ _ (inl refl) (out_count b)
place_out at_end b = out_end b
