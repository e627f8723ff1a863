use Rattle.volume_rules.proofs.Names.{deltas_keep_rule_6}
use Rattle.volume_rules.proofs.deltas.deltas_keep_rule_6.Goals as goal

pub returns : goal.returns
returns c = deltas_keep_rule_6
