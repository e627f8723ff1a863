use Rattle.std.proofs.Common.{◌≡◌, ◌++◌, take}
use Rattle.hal_schema.specs.Rules.{sizes_broken}
use Rattle.hal_schema.proofs.rules.types.sizes_broken.Given as goal

abbrev pub invariant-loop-t : goal.invariant-loop-t
invariant-loop-t l = l.places ≡ l.initial.places ++ sizes_broken (take l.t-index l.types)
