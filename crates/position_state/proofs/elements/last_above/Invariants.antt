use Rattle.std.proofs.Common.{◌≡◌, None, drop}
use Rattle.std.specs.Prelude.{nat_lt, filter}
use Rattle.std.specs.List.{last_or}
use Rattle.std.specs.Option.{option_copied}
use Rattle.position_state.specs.declared.spot.Spot.{Spot}
use Rattle.position_state.proofs.elements.last_above.Given as goal

abbrev pub invariant-loop-spot : goal.invariant-loop-spot
invariant-loop-spot l =
    last_or None (filter (λ (spot : Spot). nat_lt spot.level l.level) l.view) ≡ last_or (option_copied l.last) (filter (λ (spot : Spot). nat_lt spot.level l.level) (drop l.spot-index l.view))
