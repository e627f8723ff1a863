-- Events and runs: what the lines of a script do, one after another. What a line does and answers is a parameter, the
-- language of lines; so is the type of the states that lines lead through.
use Rattle.std.specs.Prelude.{◌≡◌, ℕ, ◌+◌, ◌-◌, ◌≤◌, Bool, MatchBool, List, [], ◌∷◌, ◌++◌, Option, ⊤}

-- what an event is asked: a line of a script (the one script of a call has no number), by its number, and how many blocks
-- are free before it
pub record Asked : Type 0 where
  pub script : Option ℕ
  pub number : ℕ
  pub line : List ℕ
  pub free : ℕ

-- One event: what it was asked, whether the line is done, and the state after it. A line that isn't done is taken again.
pub record Event (S : Type 0) : Type 0 where
  pub asked : Asked
  pub done : Bool
  pub after : S

-- an event, and what is said of it
pub record Step (S : Type 0) : Type 0 where
  pub event : Event S
  pub text : List ℕ

-- What lines mean. A reply is a function of the state and of what is asked; the next state is a relation, since names of
-- new rows are free; need is how many free blocks the event may take.
pub record Language (S : Type 0) : Type 1 where
  pub reply : S → Asked → List ℕ
  pub leads : S → Event S → Type 0
  pub need : S → Event S → ℕ

-- The events lead from a state on, one after another; `least` is the number of free blocks below which the next event
-- can't be.
abbrev pub IsRun : {S : Type 0} → Language S → S → ℕ → List (Step S) → Type 0
IsRun language start least [] = ⊤
IsRun language start least (step ∷ steps) =
    (least ≤ step.event.asked.free) × language.leads start step.event
    × IsRun language step.event.after (step.event.asked.free - language.need start step.event) steps

-- and what is said of each is its reply
abbrev pub Speaks : {S : Type 0} → Language S → S → List (Step S) → Type 0
Speaks language start [] = ⊤
Speaks language start (step ∷ steps) = (step.text ≡ language.reply start step.event.asked) × Speaks language step.event.after steps

abbrev pub state_after : {S : Type 0} → S → List (Step S) → S
state_after start [] = start
state_after start (step ∷ steps) = state_after step.event.after steps

-- how many blocks are free at the least behind these events
abbrev pub least_after : {S : Type 0} → Language S → S → ℕ → List (Step S) → ℕ
least_after language start least [] = least
least_after language start least (step ∷ steps) = least_after language step.event.after (step.event.asked.free - language.need start step.event) steps

-- the first event is asked with this number of free blocks
abbrev pub FirstFree : {S : Type 0} → ℕ → List (Step S) → Type 0
FirstFree free [] = ⊤
FirstFree free (step ∷ steps) = step.event.asked.free ≡ free

-- what is said, joined
abbrev pub text_of : {S : Type 0} → List (Step S) → List ℕ
text_of [] = []
text_of (step ∷ steps) = step.text ++ text_of steps

-- the event is of this line of this script
pub record IsOf (script : Option ℕ) (number : ℕ) (line : List ℕ) (asked : Asked) : Type 0 where
  pub of_script : asked.script ≡ script
  pub of_number : asked.number ≡ number
  pub of_line : asked.line ≡ line

-- The events are those of the lines, numbered from n, from the first one on: down to the lines that are left. A line is
-- taken again until its event is done.
abbrev pub AreOnLines : {S : Type 0} → Option ℕ → List (List ℕ) → ℕ → List (Step S) → List (List ℕ) → Type 0
AreOnLines script lines n [] left = left ≡ lines
AreOnLines script [] n (step ∷ steps) left = ⊥
AreOnLines script (line ∷ lines) n (step ∷ steps) left =
    IsOf script n line step.event.asked × MatchBool step.event.done (AreOnLines script lines (n + 1) steps left) (AreOnLines script (line ∷ lines) n steps left)
