use Rattle.std.proofs.Common.{◌≡◌, ◌++◌, take}
use Rattle.hal_schema.specs.Rules.{factors_broken}
use Rattle.hal_schema.proofs.rules.parts.factors_broken.Given as goal

abbrev pub invariant-loop-p : goal.invariant-loop-p
invariant-loop-p l = l.places ≡ l.initial.places ++ factors_broken l.dbd (take l.p-index l.parts)
