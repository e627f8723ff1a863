use Rattle.std.proofs.lemmas.Option.{none-some}
use Rattle.cell_rows.proofs.cells.rewrite.Goals as goal

pub set_pointers-requires-clause-cell : goal.set_pointers-requires-clause-cell
set_pointers-requires-clause-cell c = λ pages told. absurd (none-some pages told)

pub set_data-requires-clause-cell : goal.set_data-requires-clause-cell
set_data-requires-clause-cell c = λ pages told. absurd (none-some pages told)

pub set_name-requires-clause-cell : goal.set_name-requires-clause-cell
set_name-requires-clause-cell c = λ pages told. absurd (none-some pages told)

pub mark_copied-requires-clause-cell : goal.mark_copied-requires-clause-cell
mark_copied-requires-clause-cell c = λ pages told. absurd (none-some pages told)
