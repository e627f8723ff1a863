use Rattle.forest_laws.proofs.Sequences.{sequences_join}
use Rattle.forest_laws.proofs.joining.sequences_join.Goals as goal

pub returns : goal.returns
returns c = sequences_join c.schemas_are_kept.ensures
