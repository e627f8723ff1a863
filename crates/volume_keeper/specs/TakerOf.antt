-- A keeper as a taker of lines.
use Rattle.std.specs.Prelude.{ℕ, Option}
use Rattle.script_runs.specs.TakerView.{TakerView}
use Rattle.volume_keeper.specs.KeeperView.{KeeperView, told_state, told_free}

-- a taker that tells this state and so many free blocks
abbrev pub telling : {S : Type 0} → Option S → ℕ → KeeperView S → TakerView S
telling state free view = record {
  state = state;
  free = free;
  said = view.store.said;
  moment = view.store.moment;
  left_at = view.store.left_at;
  disk_faults = view.store.disk_faults;
  say_faults = view.store.say_faults;
  room = view.store.room;
  clean = view.store.clean;
  live = view.store.live;
}

abbrev pub taker_of : {S : Type 0} → KeeperView S → TakerView S
taker_of view = telling (told_state view) (told_free view) view
