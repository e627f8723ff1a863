use Rattle.volume_rules.proofs.Homes.{deltas_keep_homes}
use Rattle.volume_rules.proofs.deltas.deltas_keep_homes.Goals as goal

pub returns : goal.returns
returns c = deltas_keep_homes
