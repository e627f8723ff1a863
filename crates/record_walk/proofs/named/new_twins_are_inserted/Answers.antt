use Rattle.record_walk.proofs.ByName.{new_twins_are_inserted}
use Rattle.record_walk.proofs.named.new_twins_are_inserted.Goals as goal

pub returns : goal.returns
returns c = new_twins_are_inserted
