use Rattle.record_walk.proofs.Joined.{sides_are_forests}
use Rattle.record_walk.proofs.volume.sides_are_forests.Goals as goal

pub returns : goal.returns
returns c = sides_are_forests c.schemas_are_kept.ensures
