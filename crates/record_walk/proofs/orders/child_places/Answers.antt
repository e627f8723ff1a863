use Rattle.record_walk.proofs.OrderedCodes.{child_places}
use Rattle.record_walk.proofs.orders.child_places.Goals as goal

pub returns : goal.returns
returns c = child_places
