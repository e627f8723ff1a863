use Rattle.volume_rules.proofs.OrderEvents.{events_keep_order}
use Rattle.volume_rules.proofs.sides.events_keep_order.Goals as goal

pub returns : goal.returns
returns c = events_keep_order
