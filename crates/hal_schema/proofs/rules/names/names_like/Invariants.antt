use Rattle.std.proofs.Common.{◌≡◌, ◌++◌, take}
use Rattle.std.specs.Prelude.{flat_map}
use Rattle.hal_schema.specs.Places.{later, when}
use Rattle.hal_schema.specs.Rules.{same_name}
use Rattle.hal_schema.proofs.rules.names.names_like.Given as goal

abbrev pub invariant-loop-b : goal.invariant-loop-b
invariant-loop-b l = l.places ≡ l.initial.places ++ flat_map (λ b. when (same_name l.a b) (later l.a.place b.place)) (take l.b-index l.rest)
