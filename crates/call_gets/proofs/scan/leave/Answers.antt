use Rattle.std.proofs.Common.{rules}
use Rattle.std.specs.Prelude.{nat_lt}
use Rattle.std.proofs.lemmas.Fn.{filter_same}
use Rattle.position_state.specs.declared.spot.Spot.{Spot}
use Rattle.call_gets.proofs.scan.leave.Goals as goal

pub returns : goal.returns
returns c = filter_same _ (λ (above : Spot). nat_lt above.level c.args.level) _ (λ x b f' k. search rules) _ _ c.retain.ensures.filtered
