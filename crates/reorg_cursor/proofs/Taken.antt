-- Lines that are taken one after another are a run.
use native.Mathlib.Omega.{arith}
use Rattle.std.proofs.Common.{◌≡◌, ℕ, zero, suc, ◌+◌, ◌-◌, Bool, true, false, cond, List, [], ◌∷◌, Option, None, Some, refl}
use Rattle.std.specs.Prelude.{MatchOption, MatchBool, is_some}
use Rattle.std.specs.Option.{option_map_or}
use Rattle.hal_schema.specs.declared.schema.Schema.{Schema}
use Rattle.call_text.specs.Reading.{line_of}
use Rattle.script_runs.specs.Language.{Asked, Step, AreOnLines}
use Rattle.reorg_cursor.specs.Events.{Outcome}
use Rattle.reorg_cursor.specs.Lines.{Holder, Asks, LeadsBy, asked_by, outcome_for}
use Rattle.reorg_cursor.specs.Taking.{reorg_alone, is_done_by, state_by, step_by, asked_of, steps_of, AreOfScript}

-- what a line leads to, whatever it asks
led : {S : Type 0} (holder : Holder S) (s : S) (asked : Asked) (outcome : Asks → Outcome) (o : Option Asks)
    → MatchOption o
    ((option_map_or (λ asks. holder.with_states (outcome asks).states s) o s ≡ s) × (option_map_or (λ asks. is_some (outcome asks).reply) o true ≡ true))
    (λ asks. LeadsBy holder s (record { asked = asked; done = option_map_or (λ asks. is_some (outcome asks).reply) o true; after = option_map_or (λ asks. holder.with_states (outcome asks).states s) o s }) (outcome asks))
led holder s asked outcome None = (refl, refl)
led holder s asked outcome (Some asks) = record { after = refl; done = refl }

-- a line is taken again, or the next one is
on_lines : {S : Type 0} (done : Bool) (lines : List (List ℕ)) (n : ℕ) (line : List ℕ) (steps : ℕ → List (List ℕ) → List (Step S)) (left : List (List ℕ))
    → AreOnLines None (cond done lines (line ∷ lines)) (cond done (n + 1) n) (steps (cond done (n + 1) n) (cond done lines (line ∷ lines))) left
    → MatchBool done
    (AreOnLines None lines (n + 1) (steps (cond done (n + 1) n) (cond done lines (line ∷ lines))) left)
    (AreOnLines None (line ∷ lines) n (steps (cond done (n + 1) n) (cond done lines (line ∷ lines))) left)
on_lines true lines n line steps left h = h
on_lines false lines n line steps left h = h

-- one line more, before events that are a run
one_more : {S : Type 0} (built : Bool) (schema : Schema) (holder : Holder S) (free most n : ℕ) (line : List ℕ) (lines : List (List ℕ)) (s : S)
    → let done = is_done_by built schema holder s (asked_of free n line) in
    AreOfScript S built schema holder free (cond done (n + 1) n) (cond done lines (line ∷ lines)) (state_by built schema holder s (asked_of free n line))
    (steps_of built schema holder free most (cond done (n + 1) n) (cond done lines (line ∷ lines)) (state_by built schema holder s (asked_of free n line)))
    → AreOfScript S built schema holder free n (line ∷ lines) s (steps_of built schema holder free (suc most) n (line ∷ lines) s)
one_more {S} built schema holder free most n line lines s more = record {
  run = λ least h. (h, led holder s asked (λ asks. outcome_for built schema holder s free asks) (asked_by (line_of line)), more.run (free - need) (omega arith));
  speaks = (refl, more.speaks);
  left = more.left;
  on_lines = (record { of_script = refl; of_number = refl; of_line = refl }, on_lines (is_done_by built schema holder s asked) lines n line (λ m ls. steps_of built schema holder free most m ls (state_by built schema holder s asked)) more.left more.on_lines);
}
  where
    asked : Asked
    asked = asked_of free n line

    need : ℕ
    need = (reorg_alone built schema holder).need s (step_by built schema holder s asked).event

pub scripts_are_runs : {S : Type 0} (built : Bool) (schema : Schema) (holder : Holder S) (free most n : ℕ) (lines : List (List ℕ)) (s : S)
    → AreOfScript S built schema holder free n lines s (steps_of built schema holder free most n lines s)
scripts_are_runs built schema holder free zero n lines s = record { run = λ least h. tt; speaks = tt; left = lines; on_lines = refl }
scripts_are_runs built schema holder free (suc most) n [] s = record { run = λ least h. tt; speaks = tt; left = []; on_lines = refl }
scripts_are_runs built schema holder free (suc most) n (line ∷ lines) s =
    one_more built schema holder free most n line lines s (scripts_are_runs built schema holder free most _ _ _)
