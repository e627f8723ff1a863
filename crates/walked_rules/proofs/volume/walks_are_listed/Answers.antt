use Rattle.walked_rules.proofs.ListsOfWalks.{walks_are_listed}
use Rattle.walked_rules.proofs.volume.walks_are_listed.Goals as goal

pub returns : goal.returns
returns c = walks_are_listed
