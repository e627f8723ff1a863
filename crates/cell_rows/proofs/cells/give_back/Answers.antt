use Rattle.std.proofs.lemmas.Option.{none-some}
use Rattle.cell_rows.proofs.cells.give_back.Goals as goal

pub give_back-requires-clause-cell : goal.give_back-requires-clause-cell
give_back-requires-clause-cell c = λ pages told. absurd (none-some pages told)
