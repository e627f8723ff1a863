use Rattle.record_walk.proofs.Hanging.{changes_outside_leave}
use Rattle.record_walk.proofs.walk.changes_outside_leave.Goals as goal

pub returns : goal.returns
returns c = changes_outside_leave
