use Rattle.keyed_sets.proofs.Maps.{with_row_rises, without_row_rises}
use Rattle.keyed_sets.proofs.Sets.{rows_rise}
use Rattle.keyed_sets.proofs.laws.rows_rise.Goals as goal

pub returns-clause-of_pages : goal.returns-clause-of_pages
returns-clause-of_pages c = rows_rise

pub returns-clause-put : goal.returns-clause-put
returns-clause-put c = with_row_rises

pub returns-clause-removed : goal.returns-clause-removed
returns-clause-removed c = without_row_rises
