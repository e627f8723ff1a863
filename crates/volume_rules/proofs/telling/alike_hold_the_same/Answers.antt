use Rattle.volume_rules.proofs.Holding.{alike_hold}
use Rattle.volume_rules.proofs.telling.alike_hold_the_same.Goals as goal

pub returns : goal.returns
returns c = alike_hold
