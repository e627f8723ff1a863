use Rattle.std.proofs.Common.{◌≡◌, None, drop}
use Rattle.std.specs.List.{last_or}
use Rattle.std.specs.Option.{option_copied}
use Rattle.position_state.proofs.elements.last.Given as goal

abbrev pub invariant-loop-spot : goal.invariant-loop-spot
invariant-loop-spot l = last_or None l.view ≡ last_or (option_copied l.last) (drop l.spot-index l.view)
