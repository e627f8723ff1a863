use Rattle.dli_calls.proofs.DecisionLaws.{gets_leave_the_list}
use Rattle.dli_calls.proofs.laws.gets_leave_the_list.Goals as goal

pub returns : goal.returns
returns c = gets_leave_the_list
