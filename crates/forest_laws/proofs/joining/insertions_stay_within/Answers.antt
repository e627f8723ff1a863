use Rattle.forest_laws.proofs.InsertionsWithin.{insertions_stay_within}
use Rattle.forest_laws.proofs.joining.insertions_stay_within.Goals as goal

pub returns : goal.returns
returns c = insertions_stay_within c.schemas_are_kept.ensures c.root_order_is_total.ensures.total
