use Rattle.std.proofs.Common.{◌≡◌, ◌++◌, map, take, drop}
use Rattle.hal_schema.specs.Entry.{Entry, with_entry}
use Rattle.position_state.specs.Entries.{entry_seen}
use Rattle.position_state.proofs.list_entries.place_of.Given as goal

abbrev pub invariant-loop-place : goal.invariant-loop-place
invariant-loop-place l = (entry : Entry) → entry.key ≡ l.key
    → with_entry entry (map entry_seen l.entries) ≡ map entry_seen (take l.place l.entries) ++ with_entry entry (map entry_seen (drop l.place l.entries))
