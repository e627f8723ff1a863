use Rattle.std.proofs.Common.{◌≡◌, ◌++◌, take}
use Rattle.hal_schema.specs.Rules.{indexes_broken}
use Rattle.hal_schema.proofs.rules.indexes.indexes_broken.Given as goal

abbrev pub invariant-loop-i : goal.invariant-loop-i
invariant-loop-i l = l.places ≡ l.initial.places ++ indexes_broken l.types (take l.i-index l.indexes)
