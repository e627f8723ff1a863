use Rattle.std.proofs.Common.{◌≡◌, map, drop}
use Rattle.std.specs.Prelude.{◌==◌, find}
use Rattle.hal_schema.specs.declared.row.Row.{Row}
use Rattle.position_state.proofs.list_entries.row_of.Given as goal

abbrev pub invariant-loop-row : goal.invariant-loop-row
invariant-loop-row l = find (λ (row : Row). row.code == l.code) (map (λ r. r.now) l.path) ≡ find (λ (row : Row). row.code == l.code) (map (λ r. r.now) (drop l.row-index l.path))
