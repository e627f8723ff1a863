use Rattle.std.proofs.Common.{◌≡◌, take, map}
use Rattle.hal_schema.specs.Places.{statement}
use Rattle.hal_schema.proofs.rules.counts.field_places.Given as goal

abbrev pub invariant-loop-f : goal.invariant-loop-f
invariant-loop-f l = l.places ≡ map (λ f. statement f.line) (take l.f-index l.fields)
