use Rattle.std.proofs.Common.{◌≡◌, drop}
use Rattle.hal_schema.specs.Span.{span_of}
use Rattle.position_state.proofs.list_view.span_of.Given as goal

abbrev pub invariant-loop-place : goal.invariant-loop-place
invariant-loop-place l = span_of l.schema.types l.rows l.name ≡ span_of l.schema.types (drop l.place l.rows) l.name
