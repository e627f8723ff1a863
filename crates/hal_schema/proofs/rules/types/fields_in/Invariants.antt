use Rattle.std.proofs.Common.{◌≡◌, ◌++◌, not, take}
use Rattle.std.specs.Prelude.{flat_map}
use Rattle.hal_schema.specs.Places.{statement, when}
use Rattle.hal_schema.specs.Lawful.{field_fits}
use Rattle.hal_schema.specs.Raw.{field_of}
use Rattle.hal_schema.proofs.rules.types.fields_in.Given as goal

abbrev pub invariant-loop-f : goal.invariant-loop-f
invariant-loop-f l = l.places ≡ l.initial.places ++ flat_map (λ f. when (not (field_fits l.bytes (field_of f))) (statement f.line)) (take l.f-index l.fields)
