use Rattle.std.proofs.Common.{◌≡◌, length}
use Rattle.call_text.specs.Reading.{text_at}
use Rattle.call_text.proofs.Loops.{with_front}
use Rattle.call_text.proofs.read_values.text_of.Given as goal

abbrev pub invariant-loop-bytes : goal.invariant-loop-bytes
invariant-loop-bytes l = with_front l.bytes (text_at l.rest) ≡ text_at l.text

abbrev pub decreases-loop-bytes : goal.decreases-loop-bytes
decreases-loop-bytes l = length l.rest
