use Rattle.std.proofs.Common.{◌≡◌, ◌++◌, take}
use Rattle.std.specs.List.{flat_map}
use Rattle.call_text.specs.Printed.{next_ssa}
use Rattle.call_text.proofs.printing.put_ssas.Given as goal

abbrev pub invariant-loop-ssa : goal.invariant-loop-ssa
invariant-loop-ssa l = l.out ≡ l.fn.out ++ flat_map next_ssa (take l.ssa-index l.ssas)
