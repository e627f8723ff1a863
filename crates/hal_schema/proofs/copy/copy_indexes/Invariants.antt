use Rattle.std.proofs.Common.{◌≡◌, take}
use Rattle.hal_schema.proofs.copy.copy_indexes.Given as goal

abbrev pub invariant-loop-index : goal.invariant-loop-index
invariant-loop-index l = l.list ≡ take l.index-index l.indexes
