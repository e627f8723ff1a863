use Rattle.std.proofs.Common.{◌≡◌, take}
use Rattle.hal_schema.proofs.copy.copy_types.Given as goal

abbrev pub invariant-loop-t : goal.invariant-loop-t
invariant-loop-t l = l.list ≡ take l.t-index l.types
