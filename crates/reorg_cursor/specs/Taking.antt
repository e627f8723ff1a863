-- A script of REORG lines, taken one after another: the events that they are, and what is said of them.
use Rattle.std.specs.Prelude.{◌≡◌, ℕ, zero, suc, ◌+◌, ◌≤◌, Bool, true, if◌then◌else◌, List, [], ◌∷◌, None, is_some}
use Rattle.std.specs.Option.{option_map_or}
use Rattle.hal_schema.specs.declared.schema.Schema.{Schema}
use Rattle.call_text.specs.Reading.{line_of}
use Rattle.script_runs.specs.Language.{Asked, Language, Step, IsRun, Speaks, AreOnLines, text_of}
use Rattle.reorg_cursor.specs.Lines.{Holder, asked_by, outcome_for, with_reorg}

-- a language whose lines leave the state, and of which nothing is said
abbrev pub passing : {S : Type 0} → Language S
passing = record { reply = λ s asked. []; leads = λ s event. (event.after ≡ s) × (event.done ≡ true); need = λ s event. 0 }

-- REORG lines, and others that are passed over
abbrev pub reorg_alone : {S : Type 0} → Bool → Schema → Holder S → Language S
reorg_alone built schema holder = with_reorg built schema holder passing

-- whether a line is done, and the state after it
abbrev pub is_done_by : {S : Type 0} → Bool → Schema → Holder S → S → Asked → Bool
is_done_by built schema holder s asked =
    option_map_or (λ asks. is_some (outcome_for built schema holder s asked.free asks).reply) (asked_by (line_of asked.line)) true

abbrev pub state_by : {S : Type 0} → Bool → Schema → Holder S → S → Asked → S
state_by built schema holder s asked =
    option_map_or (λ asks. holder.with_states (outcome_for built schema holder s asked.free asks).states s) (asked_by (line_of asked.line)) s

abbrev pub step_by : {S : Type 0} → Bool → Schema → Holder S → S → Asked → Step S
step_by built schema holder s asked = record {
  event = record { asked = asked; done = is_done_by built schema holder s asked; after = state_by built schema holder s asked };
  text = (reorg_alone built schema holder).reply s asked;
}

abbrev pub asked_of : ℕ → ℕ → List ℕ → Asked
asked_of free n line = record { script = None; number = n; line = line; free = free }

-- the first events, so many at the most, of lines numbered from n; as many blocks are free before each. A line is taken
-- again until it is done.
abbrev pub steps_of : {S : Type 0} → Bool → Schema → Holder S → ℕ → ℕ → ℕ → List (List ℕ) → S → List (Step S)
steps_of built schema holder free zero n lines s = []
steps_of built schema holder free (suc most) n [] s = []
steps_of built schema holder free (suc most) n (line ∷ lines) s =
    let done = is_done_by built schema holder s (asked_of free n line) in
    step_by built schema holder s (asked_of free n line)
    ∷ steps_of built schema holder free most (if done then n + 1 else n) (if done then lines else line ∷ lines) (state_by built schema holder s (asked_of free n line))

abbrev pub script_text : {S : Type 0} → Bool → Schema → Holder S → ℕ → ℕ → ℕ → List (List ℕ) → S → List ℕ
script_text built schema holder free most n lines s = text_of (steps_of built schema holder free most n lines s)

-- Such events are a run: on these lines in order, each with its reply.
pub record AreOfScript (S : Type 0) (built : Bool) (schema : Schema) (holder : Holder S) (free n : ℕ) (lines : List (List ℕ)) (s : S) (steps : List (Step S)) : Type 0 where
  pub run : (least : ℕ) → least ≤ free → IsRun (reorg_alone built schema holder) s least steps
  pub speaks : Speaks (reorg_alone built schema holder) s steps
  pub left : List (List ℕ)
  pub on_lines : AreOnLines None lines n steps left

abbrev pub ScriptsAreRuns : Type 0 → Type 0
ScriptsAreRuns S = (built : Bool) (schema : Schema) (holder : Holder S) (free most n : ℕ) (lines : List (List ℕ)) (s : S)
    → AreOfScript S built schema holder free n lines s (steps_of built schema holder free most n lines s)
