use Rattle.forest_laws.proofs.Sequences.{orders_join}
use Rattle.forest_laws.proofs.joining.orders_join.Goals as goal

pub returns : goal.returns
returns c = orders_join
