use Rattle.std.proofs.Common.{◌≡◌, ◌++◌, take}
use Rattle.hal_schema.specs.Rules.{misplaced_roots}
use Rattle.hal_schema.proofs.rules.parents.misplaced_roots.Given as goal

abbrev pub invariant-loop-i : goal.invariant-loop-i
invariant-loop-i l = l.places ≡ l.initial.places ++ misplaced_roots (take l.i l.types)
