use Rattle.std.proofs.Common.{◌≡◌, ◌++◌, ◌&&◌, ◌||◌, nat_lt, take}
use Rattle.std.specs.Prelude.{flat_map}
use Rattle.hal_schema.specs.Places.{statement, when}
use Rattle.hal_schema.specs.Lawful.{is_key_portion}
use Rattle.hal_schema.specs.Raw.{is_sequence_field}
use Rattle.hal_schema.proofs.rules.types.keys_in.Given as goal

abbrev pub invariant-loop-f : goal.invariant-loop-f
invariant-loop-f l = l.places ≡ l.initial.places ++ flat_map (λ f. when (is_sequence_field f && (nat_lt 100 f.bytes || is_key_portion f.name)) (statement f.line)) (take l.f-index l.fields)
