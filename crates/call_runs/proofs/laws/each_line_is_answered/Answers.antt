use Rattle.call_runs.proofs.Answered.{each_ends}
use Rattle.call_runs.proofs.laws.each_line_is_answered.Goals as goal

pub returns : goal.returns
returns c = each_ends
