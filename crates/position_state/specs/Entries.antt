-- The entries of a list in memory as the definition of entries has them.
use Rattle.hal_schema.specs.Entry.{Entry}
use Rattle.position_state.specs.declared.list_entries.IndexEntry.{IndexEntry}

abbrev pub entry_seen : IndexEntry → Entry
entry_seen entry = record { key = entry.key; target = entry.target; root = entry.root }
