use Rattle.forest_laws.proofs.PathLaws.{paths_are_by_parents}
use Rattle.forest_laws.proofs.paths.paths_are_by_parents.Goals as goal

pub returns : goal.returns
returns c = paths_are_by_parents c.schemas_are_kept.ensures
