use Rattle.record_walk.proofs.Homes.{met_cells_stand}
use Rattle.record_walk.proofs.walk.met_cells_stand.Goals as goal

pub returns : goal.returns
returns c = met_cells_stand
