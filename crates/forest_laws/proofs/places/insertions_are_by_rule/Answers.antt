use Rattle.forest_laws.proofs.RuleLaws.{insertions_are_by_rule}
use Rattle.forest_laws.proofs.places.insertions_are_by_rule.Goals as goal

pub returns : goal.returns
returns c = insertions_are_by_rule c.schemas_are_kept.ensures c.root_order_is_total.ensures.total
