use Rattle.record_walk.proofs.LaterChildren.{later_children_are_inserted}
use Rattle.record_walk.proofs.firsts.later_children_are_inserted.Goals as goal

pub returns : goal.returns
returns c = later_children_are_inserted c.schemas_are_kept.ensures c.root_order_is_total.ensures.total
