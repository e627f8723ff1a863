use Rattle.record_walk.proofs.OnLists.{new_segments_are_listed}
use Rattle.record_walk.proofs.listed.new_segments_are_listed.Goals as goal

pub returns : goal.returns
returns c = new_segments_are_listed c.schemas_are_kept.ensures
