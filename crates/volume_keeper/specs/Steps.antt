-- Words of the private steps of a line.
use Rattle.std.specs.Prelude.{◌≡◌, ◌≤◌, true, Result, OnOk, OnErr, IsErrOf}
use Rattle.hal_base.specs.Room.{HasSayRoom}
use Rattle.hal_base.specs.Stops.{LeavesOnly, CommitLeaves}
use Rattle.hal_base.specs.StoreCalls.{LeavesSame}
use Rattle.hal_base.specs.declared.outcome.StageFault.{StageFault}
use Rattle.hal_base.specs.declared.outcome.StageFault.TheVariants as stage
use Rattle.script_runs.specs.declared.taker.EngineFault.{EngineFault}
use Rattle.script_runs.specs.declared.taker.EngineFault.TheVariants.{DiskFault, SayFault, Memory}
use Rattle.volume_keeper.specs.KeeperView.{KeeperView, DiskFails}
use Rattle.volume_keeper.specs.Calls.{SameState, SameKept, KeepsState}

abbrev pub engine_fault : StageFault → EngineFault
engine_fault stage.Failed = DiskFault
engine_fault stage.Memory = Memory

-- What is staged was kept, or nothing of it: a stop leaves the one list or the other. Want of memory drops it.
pub record Keeps {S T : Type 0} (result : Result T EngineFault) (old new : KeeperView S) : Type 0 where
  pub stops : LeavesOnly old.store.moment new.store.moment old.store.left_at new.store.left_at
      (CommitLeaves old.store.committed old.store.list old.store.said)
  pub said : new.store.said ≡ old.store.said
  pub say_faults : new.store.say_faults ≡ old.store.say_faults
  pub room : HasSayRoom old.store.room new.store.room old.store.disk_faults new.store.disk_faults (λ room. 0 ≤ room)
  pub kept : OnOk result (KeepsState old new × SameState old new)
  pub unkept : OnErr result (SameKept old new)
  pub dropped : IsErrOf result Memory → (new.state ≡ old.kept) × (new.free ≡ old.kept_free)
  pub clean : (IsErrOf result DiskFault → ⊥) → new.store.clean ≡ true
  pub no_say : IsErrOf result SayFault → ⊥
  pub quiet : IsErrOf result Memory → LeavesSame old.store new.store
  pub faults : DiskFails (IsErrOf result DiskFault) old new
