use Rattle.volume_rules.proofs.SidesKept.{deltas_keep_rule_4}
use Rattle.volume_rules.proofs.sides.deltas_keep_rule_4.Goals as goal

pub returns : goal.returns
returns c = deltas_keep_rule_4
