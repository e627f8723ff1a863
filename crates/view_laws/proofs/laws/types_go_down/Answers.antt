use Rattle.view_laws.proofs.Going.{types_go_down}
use Rattle.view_laws.proofs.laws.types_go_down.Goals as goal

pub returns : goal.returns
returns c = types_go_down
