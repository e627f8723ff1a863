use Rattle.std.proofs.Common.{◌≡◌, ◌+◌, drop, nat_lt}
use Rattle.std.specs.List.{prefix_len}
use Rattle.hal_schema.specs.declared.row.Row.{Row}
use Rattle.hal_schema.specs.Row.{row_level}
use Rattle.position_state.proofs.list_place.count_deeper.Given as goal

abbrev pub invariant-loop-place : goal.invariant-loop-place
invariant-loop-place l =
    prefix_len (λ (row : Row). nat_lt (row_level l.schema.types l.new) (row_level l.schema.types row)) l.rows
    ≡ l.place + prefix_len (λ (row : Row). nat_lt (row_level l.schema.types l.new) (row_level l.schema.types row)) (drop l.place l.rows)
