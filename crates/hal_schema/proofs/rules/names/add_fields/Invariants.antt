use Rattle.std.proofs.Common.{◌≡◌, ◌++◌, take}
use Rattle.hal_schema.specs.Rules.{named_fields}
use Rattle.hal_schema.proofs.rules.names.add_fields.Given as goal

abbrev pub invariant-loop-f : goal.invariant-loop-f
invariant-loop-f l = l.named ≡ l.initial.named ++ named_fields (take l.f-index l.fields)
