use Rattle.std.proofs.Common.{◌≡◌, Some, false}
use Rattle.call_text.specs.Reading.{clauses_at}
use Rattle.call_text.proofs.Loops.{with_front}
use Rattle.call_text.proofs.read_ssas.clauses_of.Given as goal

abbrev pub invariant-loop-next : goal.invariant-loop-next
invariant-loop-next l = with_front l.clauses (clauses_at l.left l.next l.rest) ≡ clauses_at l.most (Some false) l.text

abbrev pub decreases-loop-next : goal.decreases-loop-next
decreases-loop-next l = l.left
