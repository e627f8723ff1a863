-- Reading byte by byte: the places of a line, and the words in them.
use Rattle.std.specs.Prelude.{ℕ, ◌&&◌, ◌||◌, Bool, true, false, cond, nat_lt, ◌==◌, List, [], ◌∷◌, ◌++◌, length, map, codes}
use Rattle.std.specs.List.{list_all}
use Rattle.std.specs.Str.{bytes_eq}
use Rattle.hal_base.specs.Name.{is_name, is_digit, upper}
use Rattle.call_text.specs.declared.fault.Fault.{Fault}
use Rattle.call_text.specs.declared.fault.Fault.TheVariants as faults
use Rattle.call_text.specs.Printed.{is_sign}
use Rattle.call_text.specs.Words.{is_blank, in_word, is_letter, is_word, is_number, is_count, is_hex, is_reserved}
use Rattle.call_text.specs.Reading.{cause_of}

-- what a word is there for
pub data Kind : Type 0 where
  a_first : Kind
  a_func : Kind
  a_seg : Kind
  a_code : Kind
  a_field : Kind
  an_operator : Kind
  a_session : Kind
  an_option : Kind
  an_index : Kind
  a_verb : Kind
  a_part : Bool → Kind
  a_count : Kind

-- where the next byte stands: `between opens spaced` behind a part of a call, where a parenthesis may open and
-- a blank was there; a value stands in the content or in a clause
pub data Place : Type 0 where
  at_first : Place
  at_func : Place
  behind_seg : Place
  at_code : Place
  between : Bool → Bool → Place
  at_field : Place
  behind_field : Place
  behind_operator : Place
  in_signs : Place
  at_value : Bool → Place
  in_text : Bool → Place
  at_quote : Bool → Place
  at_mark : Bool → Place
  hex_none : Bool → Place
  hex_odd : Bool → Place
  hex_even : Bool → Place
  behind_clause : Place
  at_session : Place
  at_option : Place
  at_index : Place
  at_verb : Place
  at_part : Bool → Place
  at_count : Place
  at_end : Place

pub data State : Type 0 where
  at : Place → State
  within : Kind → List ℕ → State
  dead : Fault → State
  over : State

-- ---- words

abbrev pub is_front : List ℕ → List ℕ → Bool
is_front [] whole = true
is_front (b ∷ front) [] = false
is_front (b ∷ front) (c ∷ whole) = b == c && is_front front whole

abbrev pub is_verb : List ℕ → Bool
is_verb w = bytes_eq w (codes "STEP") || bytes_eq w (codes "START") || bytes_eq w (codes "PAUSE") || bytes_eq w (codes "RESUME") || bytes_eq w (codes "FINISH") || bytes_eq w (codes "QUERY")

abbrev pub begins_verb : List ℕ → Bool
begins_verb w = is_front w (codes "STEP") || is_front w (codes "START") || is_front w (codes "PAUSE") || is_front w (codes "RESUME") || is_front w (codes "FINISH") || is_front w (codes "QUERY")

abbrev pub is_operator : List ℕ → Bool
is_operator w = nat_lt 0 (length w) && list_all is_letter (map upper w)

abbrev pub begins_count : List ℕ → Bool
begins_count w = is_number w && (is_count w || is_count (w ++ 49 ∷ []))

-- the whole word is right
abbrev pub fits : Kind → List ℕ → Bool
fits a_first w = is_name (map upper w)
fits a_func w = is_word (map upper w)
fits a_seg w = is_name (map upper w)
fits a_code w = is_word (map upper w)
fits a_field w = is_name (map upper w)
fits an_operator w = is_operator w
fits a_session w = is_name (map upper w) && cond (is_reserved (map upper w)) false true
fits an_option w = is_word (map upper w)
fits an_index w = is_name (map upper w)
fits a_verb w = is_name (map upper w) && is_verb (map upper w)
fits (a_part step) w = is_name (map upper w)
fits a_count w = is_number w && is_count w

-- some word that is right begins so
abbrev pub begins : Kind → List ℕ → Bool
begins a_first w = is_name (map upper w)
begins a_func w = is_word (map upper w)
begins a_seg w = is_name (map upper w)
begins a_code w = is_word (map upper w)
begins a_field w = is_name (map upper w)
begins an_operator w = is_operator w
begins a_session w = is_name (map upper w)
begins an_option w = is_word (map upper w)
begins an_index w = is_name (map upper w)
begins a_verb w = is_name (map upper w) && begins_verb (map upper w)
begins (a_part step) w = is_name (map upper w)
begins a_count w = begins_count w

-- the fault of a word that isn't right
abbrev pub bad : Kind → List ℕ → Fault
bad a_first w = faults.Form
bad a_func w = faults.Form
bad a_seg w = faults.Form
bad a_code w = faults.Form
bad a_field w = faults.Form
bad an_operator w = faults.Form
bad a_session w = faults.Form
bad an_option w = faults.Form
bad an_index w = faults.Form
bad a_verb w = faults.Form
bad (a_part step) w = faults.Form
bad a_count w = cond (is_number w) faults.Count faults.Form

-- the place behind a word
abbrev pub after : Kind → List ℕ → Place
after a_first name = cond (bytes_eq name (codes "PCB")) at_session (cond (bytes_eq name (codes "REORG")) at_verb at_func)
after a_func name = between false false
after a_seg name = behind_seg
after a_code name = between true false
after a_field name = behind_field
after an_operator name = behind_operator
after a_session name = at_option
after an_option name = at_index
after an_index name = at_end
after a_verb name = at_part (bytes_eq name (codes "STEP"))
after (a_part step) name = cond step at_count at_end
after a_count name = at_end

-- ---- steps

-- a word that nothing right begins with; digits that are no count go on as a number
abbrev pub stuck : Kind → List ℕ → State
stuck a_first w = dead faults.Form
stuck a_func w = dead faults.Form
stuck a_seg w = dead faults.Form
stuck a_code w = dead faults.Form
stuck a_field w = dead faults.Form
stuck an_operator w = dead faults.Form
stuck a_session w = dead faults.Form
stuck an_option w = dead faults.Form
stuck an_index w = dead faults.Form
stuck a_verb w = dead faults.Form
stuck (a_part step) w = dead faults.Form
stuck a_count w = cond (list_all is_digit w) over (dead faults.Form)

abbrev pub grow : Kind → List ℕ → State
grow kind w = cond (begins kind w) (within kind w) (stuck kind w)

abbrev pub enter : Kind → ℕ → State
enter kind b = cond (in_word b) (grow kind (b ∷ [])) (dead faults.Form)

-- behind a gap, or a word
abbrev pub gap_or : Place → Kind → ℕ → State
gap_or place kind b = cond (is_blank b) (at place) (enter kind b)

abbrev pub between_step : Bool → Bool → ℕ → State
between_step opens spaced b = cond (is_blank b) (at (between opens true)) (cond (opens && b == 40) (at at_field) (cond (b == 58) (at (at_value true)) (cond spaced (enter a_seg b) (dead faults.Form))))

abbrev pub value_step : Bool → ℕ → State
value_step content b = cond (is_blank b) (at (at_value content)) (cond (b == 39) (at (in_text content)) (cond (upper b == 88) (at (at_mark content)) (dead faults.Form)))

abbrev pub end_step : ℕ → State
end_step b = cond (is_blank b) (at at_end) (dead faults.Form)

abbrev pub clause_step : ℕ → State
clause_step b = cond (is_blank b) (at behind_clause) (cond (b == 41) (at (between false false)) (cond (b == 38 || b == 42) (at at_field) (cond (b == 124 || b == 43) (at at_field) (dead faults.Form))))

abbrev pub after_value : Bool → Place
after_value true = at_end
after_value false = behind_clause

abbrev pub after_step : Bool → ℕ → State
after_step true b = end_step b
after_step false b = clause_step b

abbrev pub place_step : Place → ℕ → State
place_step at_first b = gap_or at_first a_first b
place_step at_func b = gap_or at_func a_func b
place_step behind_seg b = cond (b == 42) (at at_code) (between_step true false b)
place_step at_code b = enter a_code b
place_step (between opens spaced) b = between_step opens spaced b
place_step at_field b = gap_or at_field a_field b
place_step behind_field b = cond (is_blank b) (at behind_field) (cond (is_sign b) (at in_signs) (enter an_operator b))
place_step behind_operator b = cond (is_blank b) (at (at_value false)) (dead faults.Form)
place_step in_signs b = cond (is_sign b) (at in_signs) (value_step false b)
place_step (at_value content) b = value_step content b
place_step (in_text content) b = cond (b == 39) (at (at_quote content)) (at (in_text content))
place_step (at_quote content) b = cond (b == 39) (at (in_text content)) (after_step content b)
place_step (at_mark content) b = cond (b == 39) (at (hex_none content)) (dead faults.Form)
place_step (hex_none content) b = cond (is_hex b) (at (hex_odd content)) (dead faults.Value)
place_step (hex_odd content) b = cond (is_hex b) (at (hex_even content)) (dead faults.Value)
place_step (hex_even content) b = cond (is_hex b) (at (hex_odd content)) (cond (b == 39) (at (after_value content)) (dead faults.Value))
place_step behind_clause b = clause_step b
place_step at_session b = gap_or at_session a_session b
place_step at_option b = gap_or at_option an_option b
place_step at_index b = gap_or at_index an_index b
place_step at_verb b = gap_or at_verb a_verb b
place_step (at_part step) b = gap_or (at_part step) (a_part step) b
place_step at_count b = gap_or at_count a_count b
place_step at_end b = end_step b

abbrev pub word_step : Kind → List ℕ → ℕ → State
word_step kind w b = cond (in_word b) (grow kind (w ++ b ∷ [])) (cond (fits kind w) (place_step (after kind (map upper w)) b) (dead (bad kind w)))

abbrev pub over_step : ℕ → State
over_step b = cond (in_word b) (cond (is_digit b) over (dead faults.Form)) (dead faults.Count)

abbrev pub step : State → ℕ → State
step (at place) b = place_step place b
step (within kind w) b = word_step kind w b
step (dead fault) b = dead fault
step over b = over_step b

abbrev pub run : State → List ℕ → State
run state [] = state
run state (b ∷ text) = run (step state b) text

-- ---- verdicts: 0 for a line, else the cause

abbrev pub ends : Place → ℕ
ends at_first = 3
ends at_func = 3
ends behind_seg = 0
ends at_code = 3
ends (between opens spaced) = 0
ends at_field = 3
ends behind_field = 3
ends behind_operator = 3
ends in_signs = 3
ends (at_value content) = 3
ends (in_text content) = 4
ends (at_quote true) = 0
ends (at_quote false) = 3
ends (at_mark content) = 3
ends (hex_none content) = 4
ends (hex_odd content) = 4
ends (hex_even content) = 4
ends behind_clause = 3
ends at_session = 3
ends at_option = 3
ends at_index = 0
ends at_verb = 3
ends (at_part step) = 3
ends at_count = 3
ends at_end = 0

abbrev pub verdict : State → ℕ
verdict (at place) = ends place
verdict (within kind w) = cond (fits kind w) (ends (after kind (map upper w))) (cause_of (bad kind w))
verdict (dead fault) = cause_of fault
verdict over = 5

-- the verdict on a text from a state on
abbrev pub judge : State → List ℕ → ℕ
judge state text = verdict (run state text)

-- the verdict on a word and what stands behind it
abbrev pub word_judge : Kind → List ℕ → List ℕ → ℕ
word_judge kind w rest = cond (fits kind w) (judge (at (after kind (map upper w))) rest) (cause_of (bad kind w))
