use Rattle.std.proofs.Common.{◌∙◌, List, map, ap}
use Rattle.hal_schema.specs.Entry.{entries_of}
use Rattle.position_state.specs.declared.list_entries.IndexEntry.{IndexEntry}
use Rattle.position_state.specs.Entries.{entry_seen}
use Rattle.position_state.specs.View.{entry_view}
use Rattle.position_state.proofs.Steps.{left_is, flat_step, flat_end}
use Rattle.position_state.proofs.list_view.index_view.Goals as goal

pub loop-entry-preserved : goal.loop-entry-preserved
loop-entry-preserved c =
    flat_step (λ (e : IndexEntry). entry_view c.args.schema.now.types c.args.index.now c.args.rows.now (entry_seen e)) _ c.loop-entry.view c.append_entry_view.new.view
    c.as_slice-shown.result.now c.loop-entry.entry-index c.entry-item.result c.loop-entry.invariant
    (left_is c.as_slice-shown.result.now c.loop-entry.entry-index c.entry-item.result c.loop-entry-test.true c.entry-item.is) c.in_ok-append_entry_view.ensures

pub returns : goal.returns
returns c =
    flat_end (entry_view c.args.schema.now.types c.args.index.now c.args.rows.now) c.as_slice-shown.result.now (entries_of c.args.schema.now.types c.args.index.now c.args.rows.now) c.loop-entry.view
    c.loop-entry.entry-index c.loop-entry.invariant c.loop-entry-test.false (ap (λ (es : List IndexEntry). map entry_seen es) c.as_slice-shown.ensures ∙ c.in_ok-entries.ensures)
