use Rattle.view_laws.proofs.Rising.{roots_rise}
use Rattle.view_laws.proofs.laws.roots_rise.Goals as goal

pub returns : goal.returns
returns c = roots_rise c.schemas_are_kept.ensures
