use Rattle.std.proofs.Common.{◌≡◌, drop}
use Rattle.position_state.specs.Looks.{of_entry}
use Rattle.position_state.proofs.elements.first_of_key.Given as goal

abbrev pub invariant-loop-spot : goal.invariant-loop-spot
invariant-loop-spot l = of_entry l.key l.view ≡ of_entry l.key (drop l.spot-index l.view)
