use Rattle.std.proofs.Common.{◌≡◌, ◌++◌, drop}
use Rattle.position_state.proofs.list_change.append_rows.Given as goal

abbrev pub invariant-loop-row : goal.invariant-loop-row
invariant-loop-row l = l.fn.list ++ l.rows ≡ l.list ++ drop l.row-index l.rows
