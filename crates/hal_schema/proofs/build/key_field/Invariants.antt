use Rattle.std.proofs.Common.{◌≡◌, drop}
use Rattle.std.specs.Prelude.{find}
use Rattle.hal_schema.specs.Raw.{is_sequence_field}
use Rattle.hal_schema.proofs.build.key_field.Given as goal

abbrev pub invariant-loop-f : goal.invariant-loop-f
invariant-loop-f l = find is_sequence_field l.fields ≡ find is_sequence_field (drop l.f-index l.fields)
