use Rattle.record_walk.proofs.Unique.{trees_are_unique}
use Rattle.record_walk.proofs.walk.trees_are_unique.Goals as goal

pub returns : goal.returns
returns c = trees_are_unique
