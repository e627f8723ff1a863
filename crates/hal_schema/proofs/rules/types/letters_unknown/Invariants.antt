use Rattle.std.proofs.Common.{◌≡◌, ◌++◌, take}
use Rattle.hal_schema.specs.Rules.{letters_unknown}
use Rattle.hal_schema.proofs.rules.types.letters_unknown.Given as goal

abbrev pub invariant-loop-t : goal.invariant-loop-t
invariant-loop-t l = l.places ≡ l.initial.places ++ letters_unknown (take l.t-index l.types)
