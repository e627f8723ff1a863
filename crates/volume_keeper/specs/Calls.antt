-- What the calls of a keeper make and leave.
use Rattle.std.specs.Prelude.{◌≡◌, ℕ, ◌-◌, ◌≤◌, ◌<◌, true, false, List, Option, Some, Result, OnOk, OnErr}
use Rattle.hal_base.specs.StoreCalls.{SameStore, Commits, Forgets, Says}
use Rattle.hal_base.specs.declared.outcome.JournalFault.{JournalFault}
use Rattle.script_runs.specs.Language.{Step, IsOf}
use Rattle.script_runs.specs.Taken.{Meaning}
use Rattle.volume_keeper.specs.KeeperView.{KeeperView}
use Rattle.volume_keeper.specs.declared.keeper.Staged.{Staged}

-- ---- staging

-- One event of a line was staged: asked with the blocks that were free, and what is to be said of it is its reply. The
-- free blocks fell by no more than it needs; a line that isn't done has fewer units left.
pub record StagesEvent {S : Type 0} (meaning : Meaning S) (script : Option ℕ) (number : ℕ) (line : List ℕ)
    (old new : KeeperView S) (staged : Staged) : Type 0 where
  pub step : Step S
  pub of : IsOf script number line step.event.asked
  pub free : step.event.asked.free ≡ old.free
  pub done : step.event.done ≡ staged.done
  pub text : step.text ≡ staged.reply
  pub leads : (start : S) → old.state ≡ Some start → meaning.language.leads start step.event
  pub speaks : (start : S) → old.state ≡ Some start → step.text ≡ meaning.language.reply start step.event.asked
  pub tells : (start : S) → old.state ≡ Some start → new.state ≡ Some step.event.after
  pub least : (start : S) → old.state ≡ Some start → old.free - meaning.language.need start step.event ≤ new.free
  pub nearer : staged.done ≡ false → new.units < old.units

-- nothing was staged, or it was dropped
pub record StagesNone {S : Type 0} (old new : KeeperView S) : Type 0 where
  pub state : new.state ≡ old.state
  pub free : new.free ≡ old.free
  pub clean : new.store.clean ≡ true

-- what was kept stays so, and nothing of it shows on the site
pub record LeavesKept {S : Type 0} (old new : KeeperView S) : Type 0 where
  pub kept : new.kept ≡ old.kept
  pub kept_free : new.kept_free ≡ old.kept_free
  pub store : SameStore old.store new.store

-- ---- keeping

-- the state, with what is staged of it
pub record SameState {S : Type 0} (old new : KeeperView S) : Type 0 where
  pub state : new.state ≡ old.state
  pub free : new.free ≡ old.free
  pub units : new.units ≡ old.units

-- the state of the last commit
pub record SameKept {S : Type 0} (old new : KeeperView S) : Type 0 where
  pub kept : new.kept ≡ old.kept
  pub free : new.kept_free ≡ old.kept_free

-- the state is kept now
pub record KeepsState {S : Type 0} (old new : KeeperView S) : Type 0 where
  pub kept : new.kept ≡ old.state
  pub free : new.kept_free ≡ old.free

pub record CommitsState {S T : Type 0} (result : Result T JournalFault) (old new : KeeperView S) : Type 0 where
  pub store : Commits result old.store new.store
  pub same : SameState old new
  pub kept : OnOk result (KeepsState old new)
  pub unkept : OnErr result (SameKept old new)

pub record ForgetsState {S : Type 0} (old new : KeeperView S) : Type 0 where
  pub store : Forgets old.store new.store
  pub state : new.state ≡ old.kept
  pub free : new.free ≡ old.kept_free
  pub kept : SameKept old new

pub record SaysState {S T E : Type 0} (result : Result T E) (text : List ℕ) (old new : KeeperView S) : Type 0 where
  pub store : Says result text old.store new.store
  pub same : SameState old new
  pub kept : SameKept old new

-- ---- looks

-- nothing is changed, whatever the answer
pub record OnlyLooks {S : Type 0} (old new : KeeperView S) : Type 0 where
  pub same : SameState old new
  pub kept : SameKept old new
  pub clean : new.store.clean ≡ old.store.clean
  pub store : SameStore old.store new.store
