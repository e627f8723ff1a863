use Rattle.std.proofs.Common.{◌≡◌, ◌++◌, nat_lt, take}
use Rattle.std.specs.Prelude.{flat_map}
use Rattle.hal_schema.specs.Places.{statement, when}
use Rattle.hal_schema.proofs.rules.types.twins_allowed.Given as goal

abbrev pub invariant-loop-f : goal.invariant-loop-f
invariant-loop-f l = l.places ≡ l.initial.places ++ flat_map (λ f. when (nat_lt 1 f.seq) (statement f.line)) (take l.f-index l.fields)
