use Rattle.std.proofs.Common.{◌≡◌, ◌++◌, drop}
use Rattle.hal_schema.specs.Raw.{fields_named}
use Rattle.std.specs.Option.{option_map}
use Rattle.hal_schema.proofs.rules.indexes.fields_named.Given as goal

abbrev pub invariant-loop-name : goal.invariant-loop-name
invariant-loop-name l = fields_named l.fields l.names ≡ option_map (λ rest. l.found ++ rest) (fields_named l.fields (drop l.name-index l.names))
