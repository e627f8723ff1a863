use Rattle.record_walk.proofs.ChangedSides.{changed_sides}
use Rattle.record_walk.proofs.side_changes.changed_sides.Goals as goal

pub returns : goal.returns
returns c = changed_sides c.schemas_are_kept.ensures
