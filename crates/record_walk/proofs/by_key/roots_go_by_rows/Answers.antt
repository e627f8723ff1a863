use Rattle.record_walk.proofs.RootsByKey.{roots_go_by_rows}
use Rattle.record_walk.proofs.by_key.roots_go_by_rows.Goals as goal

pub returns : goal.returns
returns c = roots_go_by_rows c.schemas_are_kept.ensures
