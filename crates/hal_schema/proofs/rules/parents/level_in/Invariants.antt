use Rattle.std.proofs.Common.{◌≡◌, ◌<◌, ◌≤◌, ◌+◌, length}
use Rattle.hal_schema.specs.SegType.{level_of}
use Rattle.hal_schema.specs.Raw.{types_of}
use Rattle.hal_schema.proofs.rules.parents.level_in.Given as goal

abbrev pub invariant-loop-parent : goal.invariant-loop-parent
invariant-loop-parent l = (0 < l.at) × (l.at ≤ length l.types) × (l.level + level_of (types_of l.types) l.at ≡ level_of (types_of l.types) l.code + 1)

abbrev pub decreases-loop-parent : goal.decreases-loop-parent
decreases-loop-parent l = l.at
