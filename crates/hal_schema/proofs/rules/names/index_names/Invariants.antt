use Rattle.std.proofs.Common.{◌≡◌, take, map}
use Rattle.hal_schema.specs.Rules.{index_name}
use Rattle.hal_schema.proofs.rules.names.index_names.Given as goal

abbrev pub invariant-loop-i : goal.invariant-loop-i
invariant-loop-i l = l.named ≡ map index_name (take l.i-index l.indexes)
