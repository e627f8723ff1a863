use Rattle.std.proofs.Common.{◌≡◌, drop}
use Rattle.dbd_reader.specs.Operands.{value_of}
use Rattle.dbd_reader.proofs.operand.value_of.Given as goal

abbrev pub invariant-loop-operand : goal.invariant-loop-operand
invariant-loop-operand l = value_of l.key (drop l.operand-index l.operands) ≡ value_of l.key l.operands
