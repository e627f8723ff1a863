use Rattle.walked_rules.proofs.RowsOfWalks.{walked_rows_stand}
use Rattle.walked_rules.proofs.rows.walked_rows_stand.Goals as goal

pub returns : goal.returns
returns c = walked_rows_stand c.sides_list_their_cells.ensures
