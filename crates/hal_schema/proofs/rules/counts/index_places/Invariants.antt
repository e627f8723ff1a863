use Rattle.std.proofs.Common.{◌≡◌, take, map}
use Rattle.hal_schema.specs.Places.{statement}
use Rattle.hal_schema.proofs.rules.counts.index_places.Given as goal

abbrev pub invariant-loop-i : goal.invariant-loop-i
invariant-loop-i l = l.places ≡ map (λ i. statement i.line) (take l.i-index l.indexes)
