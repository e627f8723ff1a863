use Rattle.std.proofs.Common.{[], ◌∷◌, ◌++◌, List, ap}
use Rattle.position_state.specs.declared.spot.Spot.{Spot}
use Rattle.call_gets.proofs.gets.alone.Goals as goal

pub returns : goal.returns
returns c = ap (λ (above : List Spot). (above ++ c.args.spot ∷ [], c.args.spot)) c.new-above.ensures.items
