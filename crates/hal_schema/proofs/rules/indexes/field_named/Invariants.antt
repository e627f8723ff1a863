use Rattle.std.proofs.Common.{◌≡◌, drop}
use Rattle.std.specs.Prelude.{find}
use Rattle.std.specs.Str.{bytes_eq}
use Rattle.hal_schema.proofs.rules.indexes.field_named.Given as goal

abbrev pub invariant-loop-f : goal.invariant-loop-f
invariant-loop-f l = find (λ f. bytes_eq f.name l.name) l.fields ≡ find (λ f. bytes_eq f.name l.name) (drop l.f-index l.fields)
