use Rattle.record_walk.proofs.ParentsFirst.{parents_stand_first}
use Rattle.record_walk.proofs.parents.parents_stand_first.Goals as goal

pub returns : goal.returns
returns c = parents_stand_first c.schemas_are_kept.ensures
