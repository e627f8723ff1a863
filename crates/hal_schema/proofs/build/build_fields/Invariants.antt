use Rattle.std.proofs.Common.{◌≡◌, take, map}
use Rattle.hal_schema.specs.Raw.{field_of}
use Rattle.hal_schema.proofs.build.build_fields.Given as goal

abbrev pub invariant-loop-f : goal.invariant-loop-f
invariant-loop-f l = l.list ≡ map field_of (take l.f-index l.fields)
