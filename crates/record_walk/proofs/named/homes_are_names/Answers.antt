use Rattle.record_walk.proofs.ByName.{homes_are_names}
use Rattle.record_walk.proofs.named.homes_are_names.Goals as goal

pub returns : goal.returns
returns c = homes_are_names
