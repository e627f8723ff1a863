use Rattle.view_laws.proofs.Roots.{roots_are_keyed}
use Rattle.view_laws.proofs.laws.roots_are_keyed.Goals as goal

pub returns : goal.returns
returns c = roots_are_keyed
