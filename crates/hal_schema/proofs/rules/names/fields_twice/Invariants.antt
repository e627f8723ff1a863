use Rattle.std.proofs.Common.{◌≡◌, ◌++◌, take}
use Rattle.std.specs.Prelude.{flat_map}
use Rattle.hal_schema.specs.Rules.{field_names, names_twice}
use Rattle.hal_schema.proofs.rules.names.fields_twice.Given as goal

abbrev pub invariant-loop-t : goal.invariant-loop-t
invariant-loop-t l = l.places ≡ l.initial.places ++ flat_map (λ t. names_twice (field_names l.indexes t)) (take l.t-index l.types)
