use Rattle.std.proofs.Common.{◌≡◌, ◌++◌, map, drop}
use Rattle.hal_schema.specs.Paths.{concatenated_key}
use Rattle.load_rows.proofs.path.append_keys.Given as goal

abbrev pub invariant-loop-row : goal.invariant-loop-row
invariant-loop-row l = l.fn.key ++ concatenated_key l.schema.types (map (λ r. r.now) l.path) ≡ l.key ++ concatenated_key l.schema.types (map (λ r. r.now) (drop l.row-index l.path))
