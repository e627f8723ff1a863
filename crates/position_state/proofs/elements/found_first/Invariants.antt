use Rattle.std.proofs.Common.{◌≡◌, drop}
use Rattle.std.specs.Prelude.{find}
use Rattle.position_state.specs.View.{is_at}
use Rattle.position_state.proofs.elements.found_first.Given as goal

abbrev pub invariant-loop-spot : goal.invariant-loop-spot
invariant-loop-spot l = find (is_at l.at) l.view ≡ find (is_at l.at) (drop l.spot-index l.view)
