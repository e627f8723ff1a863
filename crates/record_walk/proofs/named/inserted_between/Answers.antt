use Rattle.record_walk.proofs.ByName.{inserted_between}
use Rattle.record_walk.proofs.named.inserted_between.Goals as goal

pub returns : goal.returns
returns c = inserted_between
