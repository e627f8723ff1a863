use Rattle.forest_laws.proofs.Sequences.{forests_are_sequences}
use Rattle.forest_laws.proofs.joining.forests_are_sequences.Goals as goal

pub returns : goal.returns
returns c = forests_are_sequences
