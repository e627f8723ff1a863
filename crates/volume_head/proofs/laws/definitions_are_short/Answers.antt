use Rattle.volume_head.proofs.ShortDefinitions.{definitions_are_short}
use Rattle.volume_head.proofs.laws.definitions_are_short.Goals as goal

pub returns : goal.returns
returns c = definitions_are_short c.schemas_are_kept.ensures
