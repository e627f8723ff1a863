use Rattle.walked_rules.proofs.RulesOfWalks.{walked_parts_keep_rule_7}
use Rattle.walked_rules.proofs.rows.walked_parts_keep_rule_7.Goals as goal

pub returns : goal.returns
returns c = walked_parts_keep_rule_7 c.schemas_are_kept.ensures c.walked_rows_stand.ensures c.siblings_rise.ensures
