use Rattle.std.proofs.Common.{◌≡◌, length}
use Rattle.call_text.specs.Reading.{pairs_at}
use Rattle.call_text.proofs.Loops.{with_front}
use Rattle.call_text.proofs.read_values.pairs_of.Given as goal

abbrev pub invariant-loop-byte : goal.invariant-loop-byte
invariant-loop-byte l = with_front l.bytes (pairs_at l.rest) ≡ pairs_at l.text

abbrev pub decreases-loop-byte : goal.decreases-loop-byte
decreases-loop-byte l = length l.rest
