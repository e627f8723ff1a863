-- What is seen of a keeper, and what its blocks hold.
use Rattle.std.specs.Prelude.{◌≡◌, ℕ, ◌&&◌, Bool, true, List, Option, Some, IsSomeAnd, if◌then◌else◌}
use Rattle.hal_base.specs.Fault.{Fails}
use Rattle.hal_base.specs.Stops.{LeavesExactly}
use Rattle.hal_base.specs.StoreCalls.{StoreView}
use Rattle.script_runs.specs.Stops.{Keeping}

-- The state with what is staged, where it is told, and how many blocks are free then; the same of the last commit; how
-- many more units the line at hand may have at most; the store of the blocks.
pub record KeeperView (S : Type 0) : Type 1 where
  pub state : Option S
  pub free : ℕ
  pub kept : Option S
  pub kept_free : ℕ
  pub units : ℕ
  pub store : StoreView

-- it may be used, and nothing is staged
abbrev pub is_clear : {S : Type 0} → KeeperView S → Bool
is_clear view = view.store.clean && view.store.live

-- What is told is the state with what is staged. After a fault of the disk it is that of the last commit, while a stop may
-- leave the next one.
abbrev pub told_state : {S : Type 0} → KeeperView S → Option S
told_state view = if view.store.live then view.state else view.kept

abbrev pub told_free : {S : Type 0} → KeeperView S → ℕ
told_free view = if view.store.live then view.free else view.kept_free

-- the blocks are told, and hold the state, with so many of them free
abbrev pub HoldsOn : {S : Type 0} → Keeping S → Option (List (List ℕ)) → S → ℕ → Type 0
HoldsOn keeping told state free = IsSomeAnd told (λ blocks. keeping.holds blocks state × (keeping.free blocks ≡ free))

-- The list of blocks holds the state with what is staged, the committed list that of the last commit. Where nothing is
-- staged they are one.
pub record IsHeld {S : Type 0} (keeping : Keeping S) (view : KeeperView S) : Type 0 where
  pub now : (state : S) → view.state ≡ Some state → HoldsOn keeping view.store.list state view.free
  pub last : (state : S) → view.kept ≡ Some state → HoldsOn keeping view.store.committed state view.kept_free
  pub clean : view.store.clean ≡ true → (view.state ≡ view.kept) × (view.free ≡ view.kept_free)

-- a stop now leaves what was committed, and what was said
abbrev pub LeavesCommitted : {S : Type 0} → KeeperView S → Type 0
LeavesCommitted view = LeavesExactly view.store.moment view.store.left_at view.store.committed view.store.said

-- a call that may answer a fault of the disk, after which the keeper may be used no more
abbrev pub DiskFails : {S : Type 0} → Type 0 → KeeperView S → KeeperView S → Type 0
DiskFails failed old new = Fails failed old.store.disk_faults new.store.disk_faults new.store.live
