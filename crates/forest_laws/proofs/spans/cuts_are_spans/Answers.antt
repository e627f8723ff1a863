use Rattle.forest_laws.proofs.SpanLaws.{cuts_are_spans}
use Rattle.forest_laws.proofs.spans.cuts_are_spans.Goals as goal

pub returns : goal.returns
returns c = cuts_are_spans
