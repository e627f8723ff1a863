use Rattle.forest_laws.proofs.PathLaws.{keys_are_long}
use Rattle.forest_laws.proofs.paths.keys_are_long.Goals as goal

pub returns : goal.returns
returns c = keys_are_long c.schemas_are_kept.ensures
