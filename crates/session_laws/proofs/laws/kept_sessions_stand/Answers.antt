use Rattle.session_laws.proofs.Standing.{kept_sessions_stand}
use Rattle.session_laws.proofs.laws.kept_sessions_stand.Goals as goal

pub returns : goal.returns
returns c = kept_sessions_stand c.changes_keep_a_forest.ensures c.rows_are_places.ensures c.anchors_are_of_both.ensures
