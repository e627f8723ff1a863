use Rattle.std.proofs.Common.{◌≡◌, drop}
use Rattle.std.specs.List.{list_any}
use Rattle.volume_image.specs.Header.{is_of}
use Rattle.volume_image.proofs.head.is_had.Given as goal

abbrev pub invariant-loop-state : goal.invariant-loop-state
invariant-loop-state l = list_any (is_of l.set) l.states ≡ list_any (is_of l.set) (drop l.state-index l.states)
