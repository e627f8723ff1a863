use Rattle.std.proofs.Common.{◌≡◌, map, vec_len}
use Rattle.hal_schema.specs.Entry.{entries_of}
use Rattle.position_state.specs.Entries.{entry_seen}
use Rattle.position_state.proofs.Sorting.{put_into}
use Rattle.position_state.proofs.list_entries.entries_of.Given as goal

abbrev pub invariant-loop-entry : goal.invariant-loop-entry
invariant-loop-entry l = entries_of l.schema.types l.index l.rows ≡ put_into (map entry_seen l.left.items) (map entry_seen l.entries)

abbrev pub decreases-loop-entry : goal.decreases-loop-entry
decreases-loop-entry l = vec_len l.left
