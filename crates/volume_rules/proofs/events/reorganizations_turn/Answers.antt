use Rattle.volume_rules.proofs.Calls.{reorganizations_turn}
use Rattle.volume_rules.proofs.events.reorganizations_turn.Goals as goal

pub returns : goal.returns
returns c = reorganizations_turn
