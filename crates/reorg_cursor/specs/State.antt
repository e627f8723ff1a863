-- How one partition stands in its online reorganization, and what each command makes of that. IMS: a HALDB partition has
-- a reorganization number, an active side of its paired data sets (A-J and X, or M-V and Y), and while an integrated online
-- reorganization owns it a cursor, behind which its records stand in the output data sets.
use Rattle.std.specs.Prelude.{ℕ, ◌+◌, ◌==◌, if◌then◌else◌, Option, None, Some, Result, Ok, Err}
use Rattle.hal_base.specs.declared.place.Cursor.TheVariants.{Front}
use Rattle.hal_base.specs.declared.place.PartState.{PartState}
use Rattle.volume_image.specs.Header.{other_side}
use Rattle.reorg_cursor.specs.declared.refusal.Refusal.{Refusal}
use Rattle.reorg_cursor.specs.declared.refusal.Refusal.TheVariants.{Begun, NotBegun, Paused, LastNumber}

-- by the letters idle (`I`), active (`C`) and paused (`P`); any other letter counts as paused, as it is printed
abbrev pub by_state : {X : Type 0} → PartState → X → X → X → X
by_state s idle active paused = if s.state == 73 then idle else if s.state == 67 then active else paused

-- START: only an idle partition, which has a next number
abbrev pub start_refusal : PartState → Option Refusal
start_refusal s = by_state s (if s.number == 65535 then Some LastNumber else None) (Some Begun) (Some Begun)

-- STEP, FINISH and PAUSE: only an active one
abbrev pub unit_refusal : PartState → Option Refusal
unit_refusal s = by_state s (Some NotBegun) None (Some Paused)

-- RESUME: only a paused one
abbrev pub resume_refusal : PartState → Option Refusal
resume_refusal s = by_state s (Some NotBegun) (Some Begun) None

-- what a call on a state answers
abbrev pub answer : Option Refusal → Result (Unit {0}) Refusal
answer None = Ok tt
answer (Some refusal) = Err refusal

-- the digit of a refusal's status
abbrev pub code_of : Refusal → ℕ
code_of Begun = 2
code_of NotBegun = 3
code_of Paused = 4
code_of LastNumber = 5

abbrev pub started : PartState → PartState
started s = record s { state = 67 }

abbrev pub paused : PartState → PartState
paused s = record s { state = 80 }

abbrev pub resumed : PartState → PartState
resumed s = record s { state = 67 }

-- the switch: the output becomes the active side, with the next number, and its cursor is at the front
abbrev pub ended : PartState → PartState
ended s = record s { number = s.number + 1; side = other_side s.side; state = 73; cursor = Front }
