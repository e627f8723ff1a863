use Rattle.std.proofs.Common.{length}
use Rattle.dbd_reader.proofs.Whole.{IsUnder}
use Rattle.dbd_reader.proofs.reading.read_text.Given as goal

abbrev pub invariant-loop-draft : goal.invariant-loop-draft
invariant-loop-draft l = IsUnder l.text l.draft l.line l.rest

abbrev pub decreases-loop-draft : goal.decreases-loop-draft
decreases-loop-draft l = length l.rest
