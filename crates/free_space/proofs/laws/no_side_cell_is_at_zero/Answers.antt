use Rattle.free_space.proofs.SideSteps.{not_at_zero}
use Rattle.free_space.proofs.laws.no_side_cell_is_at_zero.Goals as goal

pub returns : goal.returns
returns c = not_at_zero
