use Rattle.std.proofs.Common.{◌≡◌, ◌≤◌, true, drop, length}
use Rattle.std.specs.List.{list_all}
use Rattle.hal_schema.specs.Lawful.{part_is_stored}
use Rattle.hal_schema.specs.Raw.{parts_of}
use Rattle.hal_schema.proofs.build.build_parts.Given as goal

abbrev pub invariant-loop-left : goal.invariant-loop-left
invariant-loop-left l = (l.left ≤ length l.parts) × (l.list ≡ parts_of l.dbd (drop l.left l.parts)) × (list_all part_is_stored l.list ≡ true)

abbrev pub decreases-loop-left : goal.decreases-loop-left
decreases-loop-left l = l.left
