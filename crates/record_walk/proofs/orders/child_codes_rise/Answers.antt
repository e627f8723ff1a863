use Rattle.record_walk.proofs.OrderedCodes.{codes_rise}
use Rattle.record_walk.proofs.orders.child_codes_rise.Goals as goal

pub returns : goal.returns
returns c = λ types code. codes_rise 1 code types
