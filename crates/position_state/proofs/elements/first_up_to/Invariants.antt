use Rattle.std.proofs.Common.{◌≡◌, drop}
use Rattle.std.specs.Prelude.{nat_le, find}
use Rattle.position_state.specs.declared.spot.Spot.{Spot}
use Rattle.position_state.proofs.elements.first_up_to.Given as goal

abbrev pub invariant-loop-spot : goal.invariant-loop-spot
invariant-loop-spot l = find (λ (spot : Spot). nat_le spot.level l.level) l.view ≡ find (λ (spot : Spot). nat_le spot.level l.level) (drop l.spot-index l.view)
