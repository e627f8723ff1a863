use Rattle.forest_laws.proofs.CutKeeps.{cut_kept}
use Rattle.forest_laws.proofs.keeping.cut_keeps.Goals as goal

pub returns : goal.returns
returns c = cut_kept
