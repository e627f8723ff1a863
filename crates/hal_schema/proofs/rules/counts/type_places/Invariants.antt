use Rattle.std.proofs.Common.{◌≡◌, take, map}
use Rattle.hal_schema.specs.Places.{statement}
use Rattle.hal_schema.proofs.rules.counts.type_places.Given as goal

abbrev pub invariant-loop-t : goal.invariant-loop-t
invariant-loop-t l = l.places ≡ map (λ t. statement t.line) (take l.t-index l.types)
