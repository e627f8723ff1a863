use Rattle.std.proofs.Common.{◌≡◌, ◌++◌, not, take}
use Rattle.std.specs.Prelude.{flat_map}
use Rattle.hal_schema.specs.Places.{partition, when}
use Rattle.hal_schema.specs.Lawful.{number_fits}
use Rattle.hal_schema.proofs.rules.parts.numbers_in.Given as goal

abbrev pub invariant-loop-p : goal.invariant-loop-p
invariant-loop-p l = l.places ≡ l.initial.places ++ flat_map (λ p. when (not (number_fits p.number)) (partition p.place)) (take l.p-index l.parts)
