use Rattle.forest_laws.proofs.SpanLaws.{spans_are_below}
use Rattle.forest_laws.proofs.spans.spans_are_below.Goals as goal

pub returns : goal.returns
returns c = spans_are_below
