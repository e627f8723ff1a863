use Rattle.std.proofs.Common.{◌≡◌, ◌++◌, drop}
use Rattle.hal_schema.specs.Places.{partition, twice}
use Rattle.hal_schema.specs.Rules.{same_high}
use Rattle.hal_schema.proofs.rules.parts.highs_twice.Given as goal

abbrev pub invariant-loop-i : goal.invariant-loop-i
invariant-loop-i l = l.places ++ twice same_high (λ p. partition p.place) (drop l.i l.parts) ≡ l.initial.places ++ twice same_high (λ p. partition p.place) l.parts
