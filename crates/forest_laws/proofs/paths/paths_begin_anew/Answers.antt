use Rattle.forest_laws.proofs.PathLaws.{paths_begin_anew}
use Rattle.forest_laws.proofs.paths.paths_begin_anew.Goals as goal

pub returns : goal.returns
returns g c = paths_begin_anew _
