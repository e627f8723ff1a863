use Rattle.std.proofs.Common.{◌≡◌, ◌++◌, map, drop}
use Rattle.hal_schema.specs.Entry.{entries_by_row}
use Rattle.hal_schema.specs.Paths.{paths_of, with_paths}
use Rattle.hal_schema.specs.Row.{row_level}
use Rattle.position_state.specs.Entries.{entry_seen}
use Rattle.position_state.proofs.list_entries.entries_by_row.Given as goal

abbrev pub invariant-loop-row : goal.invariant-loop-row
invariant-loop-row l =
    entries_by_row l.schema.types l.index (paths_of l.schema.types l.rows)
    ≡ map entry_seen l.entries.items ++ entries_by_row l.schema.types l.index (with_paths (row_level l.schema.types) (map (λ r. r.now) l.path.items) (drop l.row-index l.rows))
