use Rattle.std.proofs.Common.{◌≡◌, take, map}
use Rattle.hal_schema.specs.Places.{partition}
use Rattle.hal_schema.proofs.rules.counts.part_places.Given as goal

abbrev pub invariant-loop-p : goal.invariant-loop-p
invariant-loop-p l = l.places ≡ map (λ p. partition p.place) (take l.p-index l.parts)
