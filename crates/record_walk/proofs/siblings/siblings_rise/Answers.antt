use Rattle.record_walk.proofs.Rising.{siblings_rise}
use Rattle.record_walk.proofs.siblings.siblings_rise.Goals as goal

pub returns : goal.returns
returns c = siblings_rise c.schemas_are_kept.ensures
