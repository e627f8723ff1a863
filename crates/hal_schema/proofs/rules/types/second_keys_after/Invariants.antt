use Rattle.std.proofs.Common.{◌≡◌, ◌++◌, take}
use Rattle.std.specs.Prelude.{flat_map}
use Rattle.hal_schema.specs.Places.{later, statement, when}
use Rattle.hal_schema.specs.Rules.{both_sequence}
use Rattle.hal_schema.proofs.rules.types.second_keys_after.Given as goal

abbrev pub invariant-loop-g : goal.invariant-loop-g
invariant-loop-g l = l.places ≡ l.initial.places ++ flat_map (λ g. when (both_sequence l.f g) (later (statement l.f.line) (statement g.line))) (take l.g-index l.rest)
