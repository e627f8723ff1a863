use Rattle.forest_laws.proofs.PathLaws.{paths_are_ancestries}
use Rattle.forest_laws.proofs.paths.paths_are_ancestries.Goals as goal

pub returns : goal.returns
returns c = paths_are_ancestries c.schemas_are_kept.ensures
