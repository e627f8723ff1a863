use Rattle.session_laws.proofs.Standing.{changes_keep_a_forest}
use Rattle.session_laws.proofs.laws.changes_keep_a_forest.Goals as goal

pub returns : goal.returns
returns c = changes_keep_a_forest c.insertion_keeps.ensures c.replacement_keeps.ensures c.cut_keeps.ensures
