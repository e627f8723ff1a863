use Rattle.std.proofs.Common.{◌≡◌, ◌≤◌, length, nat_lt, take}
use Rattle.hal_schema.specs.declared.row.Row.{Row}
use Rattle.hal_schema.specs.Insertion.{through_last}
use Rattle.hal_schema.specs.Row.{row_level}
use Rattle.position_state.proofs.row_places.through_above.Given as goal

abbrev pub invariant-rows : goal.invariant-rows
invariant-rows l =
    (l.after ≤ length l.rows)
    × (through_last (λ (row : Row). nat_lt (row_level l.schema.types row) l.level) l.rows ≡ through_last (λ (row : Row). nat_lt (row_level l.schema.types row) l.level) (take l.after l.rows))

abbrev pub decreases-rows : goal.decreases-rows
decreases-rows l = l.after
