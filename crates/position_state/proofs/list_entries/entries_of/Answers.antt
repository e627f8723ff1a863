use Rattle.std.proofs.Common.{◌∙◌, List, [], map, sym, ap}
use Rattle.hal_schema.specs.Entry.{entries_by_row}
use Rattle.hal_schema.specs.Paths.{paths_of}
use Rattle.position_state.specs.declared.list_entries.IndexEntry.{IndexEntry}
use Rattle.position_state.specs.Entries.{entry_seen}
use Rattle.position_state.proofs.Sorting.{put_into, in_order_is, put_done}
use Rattle.position_state.proofs.list_entries.entries_of.Goals as goal

pub loop-entry-init : goal.loop-entry-init
loop-entry-init c =
    in_order_is (entries_by_row c.args.schema.now.types c.args.index.now (paths_of c.args.schema.now.types c.args.rows.now))
    ∙ ap (λ es. put_into es []) (sym c.in_ok-left.ensures)
    ∙ ap (λ (es : List IndexEntry). put_into (map entry_seen c.in_ok-left.left.items) (map entry_seen es)) (sym c.new-entries.ensures)

pub loop-entry-preserved : goal.loop-entry-preserved
loop-entry-preserved c =
    put_done _ c.loop-entry.left.items c.pop.new.self.items c.in-Some.entry c.loop-entry.entries c.as_slice.result.now c.insert.new.self c.place_of.result
    c.loop-entry.invariant c.in-Some.ensures.items c.as_slice.ensures c.place_of.ensures.place c.in_ok-insert.ensures.ok
