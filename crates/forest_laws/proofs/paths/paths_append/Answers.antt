use Rattle.forest_laws.proofs.PathLaws.{paths_append}
use Rattle.forest_laws.proofs.paths.paths_append.Goals as goal

pub returns : goal.returns
returns g c = paths_append _
