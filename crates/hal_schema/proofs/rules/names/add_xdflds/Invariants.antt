use Rattle.std.proofs.Common.{◌≡◌, ◌++◌, take}
use Rattle.hal_schema.specs.Rules.{xdflds_of}
use Rattle.hal_schema.proofs.rules.names.add_xdflds.Given as goal

abbrev pub invariant-loop-i : goal.invariant-loop-i
invariant-loop-i l = l.named ≡ l.initial.named ++ xdflds_of (take l.i-index l.indexes) l.target
