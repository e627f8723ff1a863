use Rattle.hal_desk.proofs.Commands.{call_not_begun}
use Rattle.hal_desk.proofs.desk.call.Goals as goal

pub returns-in-Err-clause-ran : goal.returns-in-Err-clause-ran
returns-in-Err-clause-ran g c = call_not_begun _
