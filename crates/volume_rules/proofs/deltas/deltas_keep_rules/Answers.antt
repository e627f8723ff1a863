use Rattle.volume_rules.proofs.Together.{deltas_keep_rules}
use Rattle.volume_rules.proofs.deltas.deltas_keep_rules.Goals as goal

pub returns : goal.returns
returns c = deltas_keep_rules
