use Rattle.std.proofs.Common.{◌≡◌, map, drop}
use Rattle.std.specs.List.{list_any}
use Rattle.std.specs.Str.{bytes_eq}
use Rattle.hal_schema.specs.Entry.{Entry, entries_by_row}
use Rattle.hal_schema.specs.Paths.{paths_of, with_paths}
use Rattle.hal_schema.specs.Row.{row_level}
use Rattle.load_rows.proofs.entries.is_taken.Given as goal

abbrev pub invariant-loop-row : goal.invariant-loop-row
invariant-loop-row l =
    list_any (λ (e : Entry). bytes_eq l.key e.key) (entries_by_row l.schema.types l.index (paths_of l.schema.types l.rows))
    ≡ list_any (λ (e : Entry). bytes_eq l.key e.key) (entries_by_row l.schema.types l.index (with_paths (row_level l.schema.types) (map (λ r. r.now) l.path.items) (drop l.row-index l.rows)))
