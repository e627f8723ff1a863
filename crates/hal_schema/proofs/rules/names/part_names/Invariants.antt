use Rattle.std.proofs.Common.{◌≡◌, take, map}
use Rattle.hal_schema.specs.Rules.{part_name}
use Rattle.hal_schema.proofs.rules.names.part_names.Given as goal

abbrev pub invariant-loop-p : goal.invariant-loop-p
invariant-loop-p l = l.named ≡ map part_name (take l.p-index l.parts)
