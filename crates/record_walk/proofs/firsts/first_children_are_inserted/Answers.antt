use Rattle.record_walk.proofs.FirstChildren.{first_children_are_inserted}
use Rattle.record_walk.proofs.firsts.first_children_are_inserted.Goals as goal

pub returns : goal.returns
returns c = first_children_are_inserted c.schemas_are_kept.ensures c.root_order_is_total.ensures.total
