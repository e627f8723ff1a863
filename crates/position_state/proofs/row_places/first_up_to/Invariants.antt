use Rattle.std.proofs.Common.{◌≡◌, ◌+◌, drop, nat_le}
use Rattle.std.specs.List.{position_or_len}
use Rattle.hal_schema.specs.declared.row.Row.{Row}
use Rattle.hal_schema.specs.Row.{row_level}
use Rattle.position_state.proofs.row_places.first_up_to.Given as goal

abbrev pub invariant-loop-place : goal.invariant-loop-place
invariant-loop-place l =
    position_or_len (λ (row : Row). nat_le (row_level l.schema.types row) l.level) l.rows
    ≡ l.place + position_or_len (λ (row : Row). nat_le (row_level l.schema.types row) l.level) (drop l.place l.rows)
