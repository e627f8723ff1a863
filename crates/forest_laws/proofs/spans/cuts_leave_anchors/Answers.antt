use Rattle.forest_laws.proofs.SpanLaws.{cuts_leave_anchors}
use Rattle.forest_laws.proofs.spans.cuts_leave_anchors.Goals as goal

pub returns : goal.returns
returns c = cuts_leave_anchors
