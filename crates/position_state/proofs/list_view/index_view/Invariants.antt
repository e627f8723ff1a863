use Rattle.std.proofs.Common.{◌≡◌, ◌++◌, drop}
use Rattle.std.specs.Prelude.{flat_map}
use Rattle.position_state.specs.View.{entry_view}
use Rattle.position_state.specs.Entries.{entry_seen}
use Rattle.position_state.proofs.list_view.index_view.Given as goal

abbrev pub invariant-loop-entry : goal.invariant-loop-entry
invariant-loop-entry l =
    flat_map (λ entry. entry_view l.schema.types l.index l.rows (entry_seen entry)) l.shown
    ≡ l.view ++ flat_map (λ entry. entry_view l.schema.types l.index l.rows (entry_seen entry)) (drop l.entry-index l.shown)
