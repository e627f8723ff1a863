use Rattle.std.proofs.Common.{◌∙◌, List, [], ◌∷◌, ◌++◌, Bor, map, ap}
use Rattle.hal_schema.specs.declared.row.Row.{Row}
use Rattle.hal_schema.specs.Entry.{entries_by_row}
use Rattle.hal_schema.specs.Row.{row_level}
use Rattle.position_state.specs.Entries.{entry_seen}
use Rattle.position_state.proofs.Steps.{left_is, path_step, entries_parts}
use Rattle.position_state.proofs.list_entries.entries_by_row.Goals as goal

pub loop-row-preserved : goal.loop-row-preserved
loop-row-preserved c =
    path_step (entries_by_row c.args.schema.now.types c.args.index.now) (entries_parts c.args.schema.now.types c.args.index.now) (row_level c.args.schema.now.types)
    (map entry_seen c.loop-row.entries.items) (map entry_seen c.push_entry.new.entries.items) _ (map (λ r. r.now) c.loop-row.path.items) (map (λ r. r.now) c.go_on.new.path.items)
    c.args.rows.now c.loop-row.row-index c.row-item.result c.loop-row.invariant
    (left_is c.args.rows.now c.loop-row.row-index c.row-item.result c.loop-row-test.true c.row-item.is) c.in_ok-go_on.ensures
    (c.in_ok-push_entry.ensures ∙ ap (λ (rs : List (Bor Row)). map entry_seen c.loop-row.entries.items ++ entries_by_row c.args.schema.now.types c.args.index.now ((map (λ r. r.now) rs, c.row-item.result) ∷ [])) c.deref.ensures.value)
