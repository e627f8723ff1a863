use Rattle.call_text.proofs.FirstFaults.{one_bad_cause}
use Rattle.call_text.proofs.reading.one_cause.Goals as goal

pub returns : goal.returns
returns c = one_bad_cause
