use Rattle.view_laws.proofs.Roots.{records_stand_together}
use Rattle.view_laws.proofs.laws.records_stand_together.Goals as goal

pub returns : goal.returns
returns c = records_stand_together
