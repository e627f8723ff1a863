use Rattle.dli_calls.proofs.DecisionLaws.{refusals_leave}
use Rattle.dli_calls.proofs.laws.refusals_leave.Goals as goal

pub returns : goal.returns
returns c = refusals_leave
