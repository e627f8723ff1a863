use Rattle.record_walk.proofs.ListedCells.{sides_list_their_cells}
use Rattle.record_walk.proofs.in_records.sides_list_their_cells.Goals as goal

pub returns : goal.returns
returns c = sides_list_their_cells
