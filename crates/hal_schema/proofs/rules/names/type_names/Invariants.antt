use Rattle.std.proofs.Common.{◌≡◌, take, map}
use Rattle.hal_schema.specs.Rules.{type_name}
use Rattle.hal_schema.proofs.rules.names.type_names.Given as goal

abbrev pub invariant-loop-t : goal.invariant-loop-t
invariant-loop-t l = l.named ≡ map type_name (take l.t-index l.types)
