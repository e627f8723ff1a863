use Rattle.walked_rules.proofs.RulesOfWalks.{walked_parts_keep_rule_4}
use Rattle.walked_rules.proofs.rows.walked_parts_keep_rule_4.Goals as goal

pub returns : goal.returns
returns c = walked_parts_keep_rule_4 c.schemas_are_kept.ensures c.root_order_is_total.ensures.total c.walked_rows_stand.ensures
