use Rattle.std.proofs.Common.{◌≡◌, ◌≤◌, drop, length}
use Rattle.hal_schema.specs.Raw.{indexes_of}
use Rattle.hal_schema.proofs.build.build_indexes.Given as goal

abbrev pub invariant-loop-left : goal.invariant-loop-left
invariant-loop-left l = (l.left ≤ length l.indexes) × (l.list ≡ indexes_of l.types (drop l.left l.indexes))

abbrev pub decreases-loop-left : goal.decreases-loop-left
decreases-loop-left l = l.left
