use Rattle.std.proofs.Common.{◌≡◌, ◌==◌, map, drop}
use Rattle.std.specs.List.{list_any}
use Rattle.hal_schema.specs.declared.row.Row.{Row}
use Rattle.load_rows.proofs.entries.has_code.Given as goal

abbrev pub invariant-loop-row : goal.invariant-loop-row
invariant-loop-row l = list_any (λ (row : Row). row.code == l.code) (map (λ r. r.now) l.path) ≡ list_any (λ (row : Row). row.code == l.code) (map (λ r. r.now) (drop l.row-index l.path))
