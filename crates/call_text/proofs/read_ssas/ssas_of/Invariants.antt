use Rattle.std.proofs.Common.{◌≡◌}
use Rattle.call_text.specs.Reading.{ssas_at}
use Rattle.call_text.proofs.Loops.{with_front}
use Rattle.call_text.proofs.read_ssas.ssas_of.Given as goal

abbrev pub invariant-loop-left : goal.invariant-loop-left
invariant-loop-left l = with_front l.ssas (ssas_at l.left l.rest) ≡ ssas_at l.most l.text

abbrev pub decreases-loop-left : goal.decreases-loop-left
decreases-loop-left l = l.left
