use Rattle.std.proofs.Common.{take}
use Rattle.data_set_pairs.specs.Table.{RunFromZero}
use Rattle.data_set_pairs.proofs.order.runs_from_zero.Given as goal

abbrev pub invariant-loop-i : goal.invariant-loop-i
invariant-loop-i l = RunFromZero (take l.i l.pages)
