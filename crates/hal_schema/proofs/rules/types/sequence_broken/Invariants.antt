use Rattle.std.proofs.Common.{◌≡◌, ◌++◌, take}
use Rattle.hal_schema.specs.Rules.{sequence_broken}
use Rattle.hal_schema.proofs.rules.types.sequence_broken.Given as goal

abbrev pub invariant-loop-t : goal.invariant-loop-t
invariant-loop-t l = l.places ≡ l.initial.places ++ sequence_broken (take l.t-index l.types)
