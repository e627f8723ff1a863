use Rattle.std.proofs.Common.{◌≡◌, ◌+◌, drop}
use Rattle.std.specs.List.{prefix_len}
use Rattle.hal_schema.specs.Span.{is_deeper}
use Rattle.position_state.proofs.list_view.count_below.Given as goal

abbrev pub invariant-loop-place : goal.invariant-loop-place
invariant-loop-place l = prefix_len (is_deeper l.schema.types l.above) l.rows ≡ l.place + prefix_len (is_deeper l.schema.types l.above) (drop l.place l.rows)
