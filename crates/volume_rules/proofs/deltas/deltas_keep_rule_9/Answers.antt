use Rattle.volume_rules.proofs.Listed.{deltas_keep_rule_9}
use Rattle.volume_rules.proofs.deltas.deltas_keep_rule_9.Goals as goal

pub returns : goal.returns
returns c = deltas_keep_rule_9
