use Rattle.std.proofs.Common.{◌≡◌, drop}
use Rattle.std.specs.Prelude.{find}
use Rattle.std.specs.Str.{bytes_eq}
use Rattle.hal_schema.specs.declared.schema.Field.{Field}
use Rattle.call_gets.proofs.subjects.find_named.Given as goal

abbrev pub invariant-loop-field : goal.invariant-loop-field
invariant-loop-field l = find (λ (f : Field). bytes_eq f.name l.name) l.fields ≡ find (λ (f : Field). bytes_eq f.name l.name) (drop l.field-index l.fields)
