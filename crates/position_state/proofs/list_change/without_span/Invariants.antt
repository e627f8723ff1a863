use Rattle.std.proofs.Common.{◌≡◌, ◌++◌, drop}
use Rattle.hal_schema.specs.Span.{without_span}
use Rattle.position_state.proofs.list_change.without_span.Given as goal

abbrev pub invariant-loop-place : goal.invariant-loop-place
invariant-loop-place l = without_span l.schema.types l.rows l.name ≡ l.list ++ without_span l.schema.types (drop l.place l.rows) l.name
