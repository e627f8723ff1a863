use Rattle.std.proofs.Common.{◌≡◌, ◌++◌, drop}
use Rattle.hal_schema.specs.Rules.{names_twice}
use Rattle.hal_schema.proofs.rules.names.names_twice.Given as goal

abbrev pub invariant-loop-i : goal.invariant-loop-i
invariant-loop-i l = l.places ++ names_twice (drop l.i l.named) ≡ l.initial.places ++ names_twice l.named
