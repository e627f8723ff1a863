use Rattle.forest_laws.proofs.PathLaws.{paths_go_on}
use Rattle.forest_laws.proofs.paths.paths_go_on.Goals as goal

pub returns : goal.returns
returns g c = paths_go_on _
