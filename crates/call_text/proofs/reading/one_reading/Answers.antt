use Rattle.std.proofs.Common.{sym, ◌∙◌}
use Rattle.call_text.proofs.LinesAgain.{line_again}
use Rattle.call_text.proofs.reading.one_reading.Goals as goal

pub returns : goal.returns
returns c = λ text first second h k. sym (line_again text first h) ∙ line_again text second k
