use Rattle.std.proofs.Common.{◌≡◌, ◌≤◌, drop, length}
use Rattle.hal_schema.specs.Places.{is_before}
use Rattle.hal_schema.specs.Raw.{in_order}
use Rattle.hal_schema.proofs.fault.in_order.Given as goal

abbrev pub invariant-loop-left : goal.invariant-loop-left
invariant-loop-left l = (l.left ≤ length l.places) × (l.list ≡ in_order is_before (drop l.left l.places))

abbrev pub decreases-loop-left : goal.decreases-loop-left
decreases-loop-left l = l.left
