use Rattle.std.proofs.Common.{◌≡◌, false, take}
use Rattle.std.specs.List.{list_any}
use Rattle.dbd_reader.specs.Verdicts.{breaks}
use Rattle.dbd_reader.proofs.verdict.any_breaks.Given as goal

abbrev pub invariant-loop-operand : goal.invariant-loop-operand
invariant-loop-operand l = list_any (breaks l.rule l.word) (take l.operand-index l.operands) ≡ false
