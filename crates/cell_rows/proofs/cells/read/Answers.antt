use Rattle.std.proofs.lemmas.Option.{none-some}
use Rattle.cell_rows.proofs.cells.read.Goals as goal

pub cell-requires-clause-cell : goal.cell-requires-clause-cell
cell-requires-clause-cell c = λ pages told. absurd (none-some pages told)
