use Rattle.std.proofs.Common.{◌≡◌, ◌++◌, [], map, drop}
use Rattle.hal_schema.specs.Paths.{with_paths}
use Rattle.hal_schema.specs.Row.{row_level}
use Rattle.position_state.specs.View.{entry_element}
use Rattle.position_state.specs.Entries.{entry_seen}
use Rattle.position_state.proofs.list_view.append_entry_view.Given as goal

abbrev pub invariant-loop-row : goal.invariant-loop-row
invariant-loop-row l =
    l.fn.view ++ map (λ p. entry_element l.schema.types l.index (entry_seen l.entry) p.0 p.1) (with_paths (row_level l.schema.types) [] l.span)
    ≡ l.view ++ map (λ p. entry_element l.schema.types l.index (entry_seen l.entry) p.0 p.1) (with_paths (row_level l.schema.types) (map (λ r. r.now) l.path.items) (drop l.row-index l.span))
