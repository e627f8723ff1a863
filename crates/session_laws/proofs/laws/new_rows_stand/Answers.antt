use Rattle.session_laws.proofs.Standing.{new_rows_stand}
use Rattle.session_laws.proofs.laws.new_rows_stand.Goals as goal

pub returns : goal.returns
returns c = new_rows_stand c.changes_keep_a_forest.ensures
