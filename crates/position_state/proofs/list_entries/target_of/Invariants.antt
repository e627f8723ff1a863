use Rattle.std.proofs.Common.{◌≡◌, map, drop}
use Rattle.std.specs.Prelude.{find}
use Rattle.std.specs.Str.{bytes_eq}
use Rattle.hal_schema.specs.Entry.{Entry}
use Rattle.position_state.specs.Entries.{entry_seen}
use Rattle.position_state.proofs.list_entries.target_of.Given as goal

abbrev pub invariant-loop-entry : goal.invariant-loop-entry
invariant-loop-entry l = find (λ (e : Entry). bytes_eq e.key l.key) (map entry_seen l.entries) ≡ find (λ (e : Entry). bytes_eq e.key l.key) (map entry_seen (drop l.entry-index l.entries))
