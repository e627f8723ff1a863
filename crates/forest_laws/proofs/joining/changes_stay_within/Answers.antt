use Rattle.forest_laws.proofs.Within.{changes_stay_within}
use Rattle.forest_laws.proofs.joining.changes_stay_within.Goals as goal

pub returns : goal.returns
returns c = changes_stay_within c.schemas_are_kept.ensures
