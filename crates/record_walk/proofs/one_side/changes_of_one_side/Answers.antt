use Rattle.record_walk.proofs.InOneSide.{changes_of_one_side}
use Rattle.record_walk.proofs.one_side.changes_of_one_side.Goals as goal

pub returns : goal.returns
returns c = changes_of_one_side c.schemas_are_kept.ensures c.root_order_is_total.ensures.total
