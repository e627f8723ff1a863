use Rattle.std.proofs.Common.{◌≡◌, ◌++◌, drop}
use Rattle.hal_schema.specs.Span.{replaced}
use Rattle.position_state.proofs.list_change.replaced.Given as goal

abbrev pub invariant-loop-row : goal.invariant-loop-row
invariant-loop-row l = replaced l.rows l.name l.content ≡ l.list ++ replaced (drop l.row-index l.rows) l.name l.content
