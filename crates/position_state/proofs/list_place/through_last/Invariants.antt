use Rattle.std.proofs.Common.{◌≡◌, ◌≤◌, length, take}
use Rattle.hal_schema.specs.Insertion.{stands_before, through_last}
use Rattle.position_state.proofs.list_place.through_last.Given as goal

abbrev pub invariant-rows : goal.invariant-rows
invariant-rows l =
    (l.after ≤ length l.rows) × (through_last (stands_before l.schema l.new) l.rows ≡ through_last (stands_before l.schema l.new) (take l.after l.rows))

abbrev pub decreases-rows : goal.decreases-rows
decreases-rows l = l.after
