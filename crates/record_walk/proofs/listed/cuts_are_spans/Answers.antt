use Rattle.record_walk.proofs.OnLists.{cuts_are_spans}
use Rattle.record_walk.proofs.listed.cuts_are_spans.Goals as goal

pub returns : goal.returns
returns c = cuts_are_spans c.schemas_are_kept.ensures
