use Rattle.volume_rules.proofs.Leading.{deltas_keep_rule_8}
use Rattle.volume_rules.proofs.deltas.deltas_keep_rule_8.Goals as goal

pub returns : goal.returns
returns c = deltas_keep_rule_8
