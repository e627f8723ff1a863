use Rattle.volume_rules.proofs.Roots.{roots_stand}
use Rattle.volume_rules.proofs.pointers.roots_stand.Goals as goal

pub returns : goal.returns
returns c = roots_stand
