use Rattle.record_walk.proofs.RootRows.{homes_are_listed}
use Rattle.record_walk.proofs.root_rows.homes_are_listed.Goals as goal

pub returns : goal.returns
returns c = homes_are_listed
