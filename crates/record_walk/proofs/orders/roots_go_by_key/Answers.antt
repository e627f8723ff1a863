use Rattle.record_walk.proofs.OrderedCodes.{by_key}
use Rattle.record_walk.proofs.orders.roots_go_by_key.Goals as goal

pub returns : goal.returns
returns c = by_key
