use Rattle.std.proofs.Common.{◌≡◌, drop}
use Rattle.std.specs.List.{list_any}
use Rattle.hal_schema.specs.Raw.{is_sequence_field}
use Rattle.hal_schema.proofs.rules.types.has_key.Given as goal

abbrev pub invariant-loop-f : goal.invariant-loop-f
invariant-loop-f l = list_any is_sequence_field l.fields ≡ list_any is_sequence_field (drop l.f-index l.fields)
