use Rattle.record_walk.proofs.NextTwins.{twins_are_next}
use Rattle.record_walk.proofs.leads.twins_are_next.Goals as goal

pub returns : goal.returns
returns c = twins_are_next c.schemas_are_kept.ensures
