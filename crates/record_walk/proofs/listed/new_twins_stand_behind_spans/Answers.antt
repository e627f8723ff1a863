use Rattle.record_walk.proofs.OnLists.{new_twins_stand_behind_spans}
use Rattle.record_walk.proofs.listed.new_twins_stand_behind_spans.Goals as goal

pub returns : goal.returns
returns c = new_twins_stand_behind_spans c.schemas_are_kept.ensures
