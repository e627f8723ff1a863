use Rattle.forest_laws.proofs.ReplacementKeeps.{replacement_kept}
use Rattle.forest_laws.proofs.keeping.replacement_keeps.Goals as goal

pub returns : goal.returns
returns c = replacement_kept
