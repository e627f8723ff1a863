use Rattle.std.proofs.Common.{◌≡◌, map, drop}
use Rattle.std.specs.Prelude.{find}
use Rattle.hal_schema.specs.Paths.{paths_of, with_paths}
use Rattle.hal_schema.specs.Row.{is_parent, row_level}
use Rattle.load_rows.proofs.path.path_of_parent.Given as goal

abbrev pub invariant-loop-row : goal.invariant-loop-row
invariant-loop-row l =
    find (λ p. is_parent p.1 l.new) (paths_of l.schema.types l.rows)
    ≡ find (λ p. is_parent p.1 l.new) (with_paths (row_level l.schema.types) (map (λ r. r.now) l.path.items) (drop l.row-index l.rows))
