use Rattle.std.proofs.Common.{◌∙◌, List, map, ap}
use Rattle.std.specs.Prelude.{find}
use Rattle.std.specs.Option.{option_map}
use Rattle.std.specs.Str.{bytes_eq}
use Rattle.hal_schema.specs.Entry.{Entry}
use Rattle.position_state.specs.declared.list_entries.IndexEntry.{IndexEntry}
use Rattle.position_state.specs.Entries.{entry_seen}
use Rattle.position_state.proofs.list_entries.target_by.Goals as goal

pub returns : goal.returns
returns c =
    c.target_of.ensures
    ∙ ap (λ es. option_map (λ (e : Entry). e.target) (find (λ (e : Entry). bytes_eq e.key c.args.key.now) es)) (ap (λ (es : List IndexEntry). map entry_seen es) c.as_slice.ensures ∙ c.in_ok-entries.ensures)
