use Rattle.std.proofs.Common.{◌≡◌, drop}
use Rattle.std.specs.List.{list_any}
use Rattle.volume_image.specs.Header.{leaves_behind}
use Rattle.volume_image.proofs.head.is_behind.Given as goal

abbrev pub invariant-loop-state : goal.invariant-loop-state
invariant-loop-state l = list_any (leaves_behind l.set) l.states ≡ list_any (leaves_behind l.set) (drop l.state-index l.states)
