use Rattle.std.proofs.Common.{◌≡◌, ◌++◌, not, take}
use Rattle.std.specs.Prelude.{flat_map}
use Rattle.hal_schema.specs.Places.{partition, when}
use Rattle.hal_schema.specs.Rules.{high_is_long}
use Rattle.hal_schema.proofs.rules.parts.highs_not_long.Given as goal

abbrev pub invariant-loop-p : goal.invariant-loop-p
invariant-loop-p l = l.places ≡ l.initial.places ++ flat_map (λ p. when (not (high_is_long l.bytes p)) (partition p.place)) (take l.p-index l.parts)
