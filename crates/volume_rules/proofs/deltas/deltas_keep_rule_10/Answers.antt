use Rattle.volume_rules.proofs.Roots.{deltas_keep_rule_10}
use Rattle.volume_rules.proofs.deltas.deltas_keep_rule_10.Goals as goal

pub returns : goal.returns
returns c = deltas_keep_rule_10
