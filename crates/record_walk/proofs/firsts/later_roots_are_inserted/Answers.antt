use Rattle.record_walk.proofs.FirstChildren.{later_roots_are_inserted}
use Rattle.record_walk.proofs.firsts.later_roots_are_inserted.Goals as goal

pub returns : goal.returns
returns c = later_roots_are_inserted c.schemas_are_kept.ensures c.root_order_is_total.ensures.total
