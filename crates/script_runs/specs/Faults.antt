-- What faults of a taker come from, and how it is left.
use Rattle.std.specs.Prelude.{◌≡◌, ◌≤◌, true, false, Result, MatchResult, IfErr, IsErrOf, OnOk, IsTrue, ⊤}
use Rattle.hal_base.specs.Fault.{Rose, Fails}
use Rattle.hal_base.specs.Room.{HasSayRoom}
use Rattle.hal_base.specs.Stops.{LeavesOnly}
use Rattle.script_runs.specs.TakerView.{TakerView, is_ready}
use Rattle.script_runs.specs.declared.taker.EngineFault.{EngineFault}
use Rattle.script_runs.specs.declared.taker.EngineFault.TheVariants.{DiskFault, SayFault, Memory}

-- a fault of the disk or of a say comes only where its count rose
abbrev pub IsCaused : {S : Type 0} → EngineFault → TakerView S → TakerView S → Type 0
IsCaused DiskFault old new = Rose old.disk_faults new.disk_faults
IsCaused SayFault old new = Rose old.say_faults new.say_faults
IsCaused Memory old new = ⊤

-- after a fault of the disk the taker may be used no more; after any other it is ready for the next line
abbrev pub IsLeftBy : {S : Type 0} → EngineFault → TakerView S → Type 0
IsLeftBy DiskFault view = view.live ≡ false
IsLeftBy SayFault view = IsTrue (is_ready view)
IsLeftBy Memory view = IsTrue (is_ready view)

-- how lines end: no count falls, each fault has its cause, and but for a fault of the disk the taker is ready again
pub record EndsLines {S T : Type 0} (result : Result T EngineFault) (old new : TakerView S) : Type 0 where
  pub disk_later : old.disk_faults ≤ new.disk_faults
  pub say_later : old.say_faults ≤ new.say_faults
  pub caused : IfErr result (λ fault. IsCaused fault old new)
  pub ready : MatchResult result (λ done. IsTrue (is_ready new)) (λ fault. IsLeftBy fault new)

-- the same is told
pub record TellsSame {S : Type 0} (old new : TakerView S) : Type 0 where
  pub state : new.state ≡ old.state
  pub free : new.free ≡ old.free
  pub clean : new.clean ≡ old.clean

-- A look: it says nothing, a stop leaves nothing new, and what is told stays. A fault may drop what was staged; none of
-- a say comes.
pub record Looks {S T : Type 0} (result : Result T EngineFault) (old new : TakerView S) : Type 0 where
  pub told : OnOk result (TellsSame old new)
  pub kept : old.clean ≡ true → TellsSame old new
  pub said : new.said ≡ old.said
  pub stops : LeavesOnly old.moment new.moment old.left_at new.left_at (old.left_at old.moment)
  pub say_faults : new.say_faults ≡ old.say_faults
  pub says_none : IsErrOf result SayFault → ⊥
  pub room : HasSayRoom old.room new.room old.disk_faults new.disk_faults (λ room. 0 ≤ room)
  pub faults : Fails (IsErrOf result DiskFault) old.disk_faults new.disk_faults new.live
