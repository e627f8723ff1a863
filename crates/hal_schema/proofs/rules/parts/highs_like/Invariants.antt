use Rattle.std.proofs.Common.{◌≡◌, ◌++◌, take}
use Rattle.std.specs.Prelude.{flat_map}
use Rattle.hal_schema.specs.Places.{later, partition, when}
use Rattle.hal_schema.specs.Rules.{same_high}
use Rattle.hal_schema.proofs.rules.parts.highs_like.Given as goal

abbrev pub invariant-loop-q : goal.invariant-loop-q
invariant-loop-q l = l.places ≡ l.initial.places ++ flat_map (λ q. when (same_high l.p q) (later (partition l.p.place) (partition q.place))) (take l.q-index l.rest)
