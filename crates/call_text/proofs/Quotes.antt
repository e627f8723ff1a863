-- A state is within a value where the front has an odd count of quotes.
use Rattle.std.proofs.Common.{◌≡◌, ℕ, ◌&&◌, ◌||◌, Bool, true, false, not, cond, ◌==◌, List, [], ◌∷◌, ◌++◌, map, refl, sym, ap, subst, ◌∙◌, codes}
use Rattle.std.specs.List.{list_all}
use Rattle.std.specs.Str.{bytes_eq}
use Rattle.std.proofs.lemmas.Bool.{eqb-true}
use Rattle.hal_base.specs.Name.{is_digit, upper}
use Rattle.call_text.specs.declared.fault.Fault.{Fault}
use Rattle.call_text.specs.declared.fault.Fault.TheVariants as faults
use Rattle.call_text.specs.Printed.{is_sign}
use Rattle.call_text.specs.Words.{is_blank, in_word, is_hex}
use Rattle.call_text.proofs.States.{Kind, Place, State, a_first, a_func, a_seg, a_code, a_field, an_operator, a_session, an_option, an_index, a_verb, a_part, a_count, at_first, at_func, behind_seg, at_code, between, at_field, behind_field, behind_operator, in_signs, at_value, in_text, at_quote, at_mark, hex_none, hex_odd, hex_even, behind_clause, at_session, at_option, at_index, at_verb, at_part, at_count, at_end, at, within, dead, over, fits, begins, bad, after, after_value, after_step, value_step, between_step, end_step, clause_step, enter, grow, stuck, gap_or, place_step, step}
use Rattle.call_text.proofs.Walks.{cond_false}
use Rattle.call_text.proofs.Fronts.{is_live}

-- ---- open values

abbrev pub is_open_place : Place → Bool
is_open_place at_first = false
is_open_place at_func = false
is_open_place behind_seg = false
is_open_place at_code = false
is_open_place (between opens spaced) = false
is_open_place at_field = false
is_open_place behind_field = false
is_open_place behind_operator = false
is_open_place in_signs = false
is_open_place (at_value content) = false
is_open_place (in_text content) = true
is_open_place (at_quote content) = false
is_open_place (at_mark content) = false
is_open_place (hex_none content) = true
is_open_place (hex_odd content) = true
is_open_place (hex_even content) = true
is_open_place behind_clause = false
is_open_place at_session = false
is_open_place at_option = false
is_open_place at_index = false
is_open_place at_verb = false
is_open_place (at_part counted) = false
is_open_place at_count = false
is_open_place at_end = false

abbrev pub in_value : State → Bool
in_value (at place) = is_open_place place
in_value (within kind w) = false
in_value (dead fault) = false
in_value over = false

-- at a quote a value opens or closes
quote_place : (place : Place) → is_live (place_step place 39) ≡ true → in_value (place_step place 39) ≡ not (is_open_place place)
quote_place at_first live = absurd cc
quote_place at_func live = absurd cc
quote_place behind_seg live = absurd cc
quote_place at_code live = absurd cc
quote_place (between true true) live = absurd cc
quote_place (between true false) live = absurd cc
quote_place (between false true) live = absurd cc
quote_place (between false false) live = absurd cc
quote_place at_field live = absurd cc
quote_place behind_field live = absurd cc
quote_place behind_operator live = absurd cc
quote_place in_signs live = refl
quote_place (at_value content) live = refl
quote_place (in_text content) live = refl
quote_place (at_quote content) live = refl
quote_place (at_mark content) live = refl
quote_place (hex_none content) live = absurd cc
quote_place (hex_odd content) live = absurd cc
quote_place (hex_even true) live = refl
quote_place (hex_even false) live = refl
quote_place behind_clause live = absurd cc
quote_place at_session live = absurd cc
quote_place at_option live = absurd cc
quote_place at_index live = absurd cc
quote_place at_verb live = absurd cc
quote_place (at_part counted) live = absurd cc
quote_place at_count live = absurd cc
quote_place at_end live = absurd cc

-- no word goes on with a quote
no_quote_cond : (v : Bool) (fault : Fault) (x : State) → x ≡ dead faults.Form → is_live (cond v x (dead fault)) ≡ true → ⊥
no_quote_cond true fault x e live = let no_way : false ≡ true = ap is_live (sym e) ∙ live in absurd cc
no_quote_cond false fault x e live = absurd cc

first_place : (p r : Bool) → place_step (cond p at_session (cond r at_verb at_func)) 39 ≡ dead faults.Form
first_place true r = refl
first_place false true = refl
first_place false false = refl

part_place : (counted : Bool) → place_step (cond counted at_count at_end) 39 ≡ dead faults.Form
part_place true = refl
part_place false = refl

quote_after : (kind : Kind) (name : List ℕ) → place_step (after kind name) 39 ≡ dead faults.Form
quote_after a_first name = first_place (bytes_eq name (codes "PCB")) (bytes_eq name (codes "REORG"))
quote_after a_func name = refl
quote_after a_seg name = refl
quote_after a_code name = refl
quote_after a_field name = refl
quote_after an_operator name = refl
quote_after a_session name = refl
quote_after an_option name = refl
quote_after an_index name = refl
quote_after a_verb name = refl
quote_after (a_part counted) name = part_place counted
quote_after a_count name = refl

quote_state : (state : State) → is_live (step state 39) ≡ true → in_value (step state 39) ≡ not (in_value state)
quote_state (at place) live = quote_place place live
quote_state (within kind w) live = absurd (no_quote_cond (fits kind w) (bad kind w) (place_step (after kind (map upper w)) 39) (quote_after kind (map upper w)) live)
quote_state (dead fault) live = absurd cc
quote_state over live = absurd cc

-- no other byte opens a value
abbrev Shut : State → Type 0
Shut state = in_value state ≡ false

shut_cond : (v : Bool) (x y : State) → Shut x → Shut y → Shut (cond v x y)
shut_cond true x y hx hy = hx
shut_cond false x y hx hy = hy

shut_stuck : (kind : Kind) (w : List ℕ) → Shut (stuck kind w)
shut_stuck a_first w = refl
shut_stuck a_func w = refl
shut_stuck a_seg w = refl
shut_stuck a_code w = refl
shut_stuck a_field w = refl
shut_stuck an_operator w = refl
shut_stuck a_session w = refl
shut_stuck an_option w = refl
shut_stuck an_index w = refl
shut_stuck a_verb w = refl
shut_stuck (a_part counted) w = refl
shut_stuck a_count w = shut_cond (list_all is_digit w) _ _ refl refl

shut_grow : (kind : Kind) (w : List ℕ) → Shut (grow kind w)
shut_grow kind w = shut_cond (begins kind w) _ _ refl (shut_stuck kind w)

shut_enter : (kind : Kind) (b : ℕ) → Shut (enter kind b)
shut_enter kind b = shut_cond (in_word b) _ _ (shut_grow kind (b ∷ [])) refl

shut_gap : (place : Place) (kind : Kind) (b : ℕ) → is_open_place place ≡ false → Shut (gap_or place kind b)
shut_gap place kind b h = shut_cond (is_blank b) _ _ h (shut_enter kind b)

shut_value : (content : Bool) (b : ℕ) → (b == 39) ≡ false → Shut (value_step content b)
shut_value content b q = shut_cond (is_blank b) _ _ refl (subst Shut (sym (cond_false (b == 39) (at (in_text content)) _ q)) (shut_cond (upper b == 88) _ _ refl refl))

shut_end : (b : ℕ) → Shut (end_step b)
shut_end b = shut_cond (is_blank b) _ _ refl refl

shut_clause : (b : ℕ) → Shut (clause_step b)
shut_clause b = shut_cond (is_blank b) _ _ refl (shut_cond (b == 41) _ _ refl (shut_cond (b == 38 || b == 42) _ _ refl (shut_cond (b == 124 || b == 43) _ _ refl refl)))

shut_after : (content : Bool) (b : ℕ) → Shut (after_step content b)
shut_after true b = shut_end b
shut_after false b = shut_clause b

shut_between : (opens spaced : Bool) (b : ℕ) → Shut (between_step opens spaced b)
shut_between opens spaced b = shut_cond (is_blank b) _ _ refl (shut_cond (opens && b == 40) _ _ refl (shut_cond (b == 58) _ _ refl (shut_cond spaced _ _ (shut_enter a_seg b) refl)))

shut_place : (place : Place) (b : ℕ) → (b == 39) ≡ false → is_open_place place ≡ false → Shut (place_step place b)
shut_place at_first b q h = shut_gap at_first a_first b refl
shut_place at_func b q h = shut_gap at_func a_func b refl
shut_place behind_seg b q h = shut_cond (b == 42) _ _ refl (shut_between true false b)
shut_place at_code b q h = shut_enter a_code b
shut_place (between opens spaced) b q h = shut_between opens spaced b
shut_place at_field b q h = shut_gap at_field a_field b refl
shut_place behind_field b q h = shut_cond (is_blank b) _ _ refl (shut_cond (is_sign b) _ _ refl (shut_enter an_operator b))
shut_place behind_operator b q h = shut_cond (is_blank b) _ _ refl refl
shut_place in_signs b q h = shut_cond (is_sign b) _ _ refl (shut_value false b q)
shut_place (at_value content) b q h = shut_value content b q
shut_place (in_text content) b q h = absurd cc
shut_place (at_quote content) b q h = subst Shut (sym (cond_false (b == 39) (at (in_text content)) _ q)) (shut_after content b)
shut_place (at_mark content) b q h = subst Shut (sym (cond_false (b == 39) (at (hex_none content)) _ q)) refl
shut_place (hex_none content) b q h = absurd cc
shut_place (hex_odd content) b q h = absurd cc
shut_place (hex_even content) b q h = absurd cc
shut_place behind_clause b q h = shut_clause b
shut_place at_session b q h = shut_gap at_session a_session b refl
shut_place at_option b q h = shut_gap at_option an_option b refl
shut_place at_index b q h = shut_gap at_index an_index b refl
shut_place at_verb b q h = shut_gap at_verb a_verb b refl
shut_place (at_part counted) b q h = shut_gap (at_part counted) (a_part counted) b refl
shut_place at_count b q h = shut_gap at_count a_count b refl
shut_place at_end b q h = shut_end b

kept : (v : Bool) (x y : State) → in_value x ≡ true → is_live y ≡ false → is_live (cond v x y) ≡ true → in_value (cond v x y) ≡ true
kept true x y hx hy live = hx
kept false x y hx hy live = let no_way : false ≡ true = sym hy ∙ live in absurd cc

-- nor does one close it
open_place : (place : Place) (b : ℕ) → (b == 39) ≡ false → is_open_place place ≡ true → is_live (place_step place b) ≡ true → in_value (place_step place b) ≡ true
open_place at_first b q h live = absurd cc
open_place at_func b q h live = absurd cc
open_place behind_seg b q h live = absurd cc
open_place at_code b q h live = absurd cc
open_place (between opens spaced) b q h live = absurd cc
open_place at_field b q h live = absurd cc
open_place behind_field b q h live = absurd cc
open_place behind_operator b q h live = absurd cc
open_place in_signs b q h live = absurd cc
open_place (at_value content) b q h live = absurd cc
open_place (in_text content) b q h live = ap in_value (cond_false (b == 39) (at (at_quote content)) _ q)
open_place (at_quote content) b q h live = absurd cc
open_place (at_mark content) b q h live = absurd cc
open_place (hex_none content) b q h live = kept (is_hex b) (at (hex_odd content)) (dead faults.Value) refl refl live
open_place (hex_odd content) b q h live = kept (is_hex b) (at (hex_even content)) (dead faults.Value) refl refl live
open_place (hex_even content) b q h live = kept (is_hex b) (at (hex_odd content)) (cond (b == 39) (at (after_value content)) (dead faults.Value)) refl (ap is_live (cond_false (b == 39) (at (after_value content)) (dead faults.Value) q)) live
open_place behind_clause b q h live = absurd cc
open_place at_session b q h live = absurd cc
open_place at_option b q h live = absurd cc
open_place at_index b q h live = absurd cc
open_place at_verb b q h live = absurd cc
open_place (at_part counted) b q h live = absurd cc
open_place at_count b q h live = absurd cc
open_place at_end b q h live = absurd cc

pub after_shut : (kind : Kind) (name : List ℕ) → is_open_place (after kind name) ≡ false
after_shut a_first name = two (bytes_eq name (codes "PCB")) (bytes_eq name (codes "REORG"))
  where
    two : (p r : Bool) → is_open_place (cond p at_session (cond r at_verb at_func)) ≡ false
    two true r = refl
    two false true = refl
    two false false = refl
after_shut a_func name = refl
after_shut a_seg name = refl
after_shut a_code name = refl
after_shut a_field name = refl
after_shut an_operator name = refl
after_shut a_session name = refl
after_shut an_option name = refl
after_shut an_index name = refl
after_shut a_verb name = refl
after_shut (a_part true) name = refl
after_shut (a_part false) name = refl
after_shut a_count name = refl

other_state : (state : State) (b : ℕ) → (b == 39) ≡ false → is_live (step state b) ≡ true → in_value (step state b) ≡ in_value state
other_state (at place) b q live = by_case (is_open_place place) refl
  where
    by_case : (v : Bool) → is_open_place place ≡ v → in_value (place_step place b) ≡ is_open_place place
    by_case true e = open_place place b q e live ∙ sym e
    by_case false e = shut_place place b q e ∙ sym e
other_state (within kind w) b q live = shut_cond (in_word b) _ _ (shut_grow kind (w ++ b ∷ [])) (shut_cond (fits kind w) _ _ (shut_place (after kind (map upper w)) b q (after_shut kind (map upper w))) refl)
other_state (dead fault) b q live = absurd cc
other_state over b q live = shut_cond (in_word b) _ _ (shut_cond (is_digit b) _ _ refl refl) refl

pub step_value : (state : State) (b : ℕ) → is_live (step state b) ≡ true → in_value (step state b) ≡ cond (b == 39) (not (in_value state)) (in_value state)
step_value state b live = by_case (b == 39) refl
  where
    by_case : (v : Bool) → (b == 39) ≡ v → in_value (step state b) ≡ cond v (not (in_value state)) (in_value state)
    by_case true e =
        let is : b ≡ 39 = eqb-true b 39 e in
        ap (λ (x : ℕ). in_value (step state x)) is ∙ quote_state state (ap (λ (x : ℕ). is_live (step state x)) (sym is) ∙ live)
    by_case false e = other_state state b e live
