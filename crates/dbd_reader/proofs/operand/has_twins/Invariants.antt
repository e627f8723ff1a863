use Rattle.std.proofs.Common.{◌≡◌, length}
use Rattle.dbd_reader.specs.Operands.{has_twins}
use Rattle.dbd_reader.proofs.operand.has_twins.Given as goal

abbrev pub invariant-loop-left : goal.invariant-loop-left
invariant-loop-left l = has_twins l.left ≡ has_twins l.operands

abbrev pub decreases-loop-left : goal.decreases-loop-left
decreases-loop-left l = length l.left
