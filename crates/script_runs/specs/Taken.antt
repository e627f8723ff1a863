-- What a taker did with a line, and with several.
use Rattle.std.specs.Prelude.{◌≡◌, ◌⊎◌, ℕ, ◌+◌, ◌≤◌, Bool, List, [], ◌∷◌, ◌++◌, length, Option, None, Some, IsSomeAnd, Result, MatchResult, ⊤}
use Rattle.std.specs.Io.KnownBytes.{Appends}
use Rattle.hal_base.specs.Room.{HasSayRoom}
use Rattle.hal_base.specs.Stops.{LeavesOnly}
use Rattle.hal_base.specs.declared.place.PartState.{PartState}
use Rattle.hal_schema.specs.declared.row.Row.{Row}
use Rattle.script_runs.specs.Language.{Step, Language, IsRun, Speaks, state_after, least_after, FirstFree, text_of, IsOf, AreOnLines}
use Rattle.script_runs.specs.Stops.{Keeping, StopsAmong, IsOnSite}
use Rattle.script_runs.specs.TakerView.{TakerView}
use Rattle.script_runs.specs.declared.taker.EngineFault.{EngineFault}
use Rattle.script_runs.specs.declared.taker.EngineFault.TheVariants.{DiskFault, SayFault, Memory}

-- what lines mean, which blocks hold a state, and the rows and partition states that a state has
pub record Meaning (S : Type 0) : Type 1 where
  pub language : Language S
  pub keeping : Keeping S
  pub rows : S → List Row
  pub parts : S → List PartState

-- no event was begun
abbrev pub BeganNone : {S : Type 0} → List (Step S) → List ℕ → Type 0
BeganNone begun part = (begun ≡ []) × (part ≡ [])

-- one event was begun, and a prefix of its text was said
abbrev pub BeganOne : {S : Type 0} → List (Step S) → List ℕ → Type 0
BeganOne {S} begun part = (step : Step S) × (begun ≡ step ∷ []) × ((rest : List ℕ) × (step.text ≡ part ++ rest))

-- What a fault cut short. Want of memory comes before an event is begun; a fault of the disk before anything of its text
-- is said; a fault of a say in its text.
abbrev pub Began : {S : Type 0} → Option EngineFault → List (Step S) → List ℕ → Type 0
Began None begun part = BeganNone begun part
Began (Some Memory) begun part = BeganNone begun part
Began (Some DiskFault) begun part = (part ≡ []) × (BeganNone begun part ⊎ BeganOne begun part)
Began (Some SayFault) begun part = BeganOne begun part

-- The events whose states are told: an event whose say failed is kept. After a fault of the disk the state before is
-- told, while a stop may leave the next one.
abbrev pub told_steps : {S : Type 0} → Option EngineFault → List (Step S) → List (Step S) → List (Step S)
told_steps (Some SayFault) steps begun = steps ++ begun
told_steps other steps begun = steps

-- what is told holds still unless the disk failed
abbrev pub IsKept : Option EngineFault → Type 0
IsKept (Some DiskFault) = ⊥
IsKept other = ⊤

-- A room that is told stays told, and is not made smaller. Over one the disk doesn't fail, and no say does where what was
-- said and this text fit it.
pub record KeepsRoom {S : Type 0} (old new : TakerView S) (text : List ℕ) : Type 0 where
  pub disk : HasSayRoom old.room new.room old.disk_faults new.disk_faults (λ room. 0 ≤ room)
  pub say : HasSayRoom old.room new.room old.say_faults new.say_faults (λ room. IsSomeAnd old.said (λ before. length before + length text ≤ room))

-- a stop since then leaves a state of these events
abbrev pub LeavesAmong : {S : Type 0} → Keeping S → TakerView S → TakerView S → List (Step S) → Type 0
LeavesAmong keeping old new steps = LeavesOnly old.moment new.moment old.left_at new.left_at (StopsAmong keeping old.state old.said steps)

-- What events did to a taker, to their end or to a fault that cut one more of them short.
pub record Goes {S : Type 0} (meaning : Meaning S) (fault : Option EngineFault) (old new : TakerView S)
    (steps begun : List (Step S)) (part : List ℕ) : Type 0 where
  pub run : (start : S) → old.state ≡ Some start → IsRun meaning.language start old.free (steps ++ begun)
  pub speaks : (start : S) → old.state ≡ Some start → Speaks meaning.language start (steps ++ begun)
  pub tells : (start : S) → old.state ≡ Some start → new.state ≡ Some (state_after start (told_steps fault steps begun))
  pub least : (start : S) → old.state ≡ Some start → IsKept fault → least_after meaning.language start old.free (told_steps fault steps begun) ≤ new.free
  pub first : FirstFree old.free (steps ++ begun)
  pub still : told_steps fault steps begun ≡ [] → IsKept fault → new.free ≡ old.free
  pub began : Began fault begun part
  pub text : Appends old.said new.said (text_of steps ++ part)
  pub stops : LeavesAmong meaning.keeping old new (steps ++ begun)
  pub room : KeepsRoom old new (text_of (steps ++ begun))

-- and each event has its moment
pub record Went {S : Type 0} (meaning : Meaning S) (fault : Option EngineFault) (old new : TakerView S)
    (steps begun : List (Step S)) (part : List ℕ) : Type 0 where
  pub goes : Goes meaning fault old new steps begun part
  pub on_site : (start : S) → old.state ≡ Some start → IsOnSite meaning.keeping new.left_at old.moment new.moment start (steps ++ begun)

-- one event of a line was done
pub record TookOne {S : Type 0} (meaning : Meaning S) (script : Option ℕ) (number : ℕ) (line : List ℕ) (old new : TakerView S) (finished : Bool) : Type 0 where
  pub step : Step S
  pub of : IsOf script number line step.event.asked
  pub done : step.event.done ≡ finished
  pub goes : Goes meaning None old new (step ∷ []) [] []

-- a fault cut an event of a line short
pub record CutOne {S : Type 0} (meaning : Meaning S) (script : Option ℕ) (number : ℕ) (line : List ℕ)
    (old new : TakerView S) (fault : EngineFault) : Type 0 where
  pub begun : List (Step S)
  pub part : List ℕ
  pub left : List (List ℕ)
  pub took : AreOnLines script (line ∷ []) number begun left
  pub goes : Goes meaning (Some fault) old new [] begun part

-- the events of a prefix of these lines, numbered from there on, and at most one more that was begun
pub record Lines {S : Type 0} (meaning : Meaning S) (fault : Option EngineFault) (script : Option ℕ)
    (all : List (List ℕ)) (number : ℕ) (old new : TakerView S) (left : List (List ℕ)) (steps begun : List (Step S)) (part : List ℕ) : Type 0 where
  pub went : Went meaning fault old new steps begun part
  pub took : AreOnLines script all number (steps ++ begun) left

-- each of these lines is done
pub record DidLines {S : Type 0} (meaning : Meaning S) (script : Option ℕ) (all : List (List ℕ)) (number : ℕ) (old new : TakerView S) : Type 0 where
  pub steps : List (Step S)
  pub lines : Lines meaning None script all number old new [] steps [] []

-- some of these lines are done, and then a fault came
pub record CutLines {S : Type 0} (meaning : Meaning S) (script : Option ℕ) (all : List (List ℕ)) (number : ℕ)
    (old new : TakerView S) (fault : EngineFault) : Type 0 where
  pub steps : List (Step S)
  pub begun : List (Step S)
  pub part : List ℕ
  pub left : List (List ℕ)
  pub lines : Lines meaning (Some fault) script all number old new left steps begun part

-- these lines, numbered from there on, are done, or a fault came
abbrev pub TookLines : {S T : Type 0} → Meaning S → List (List ℕ) → ℕ → TakerView S → TakerView S → Result T EngineFault → Type 0
TookLines meaning all number old new result =
    MatchResult result (λ done. DidLines meaning None all number old new) (λ fault. CutLines meaning None all number old new fault)
