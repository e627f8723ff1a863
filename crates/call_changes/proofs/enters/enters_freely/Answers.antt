use Rattle.std.proofs.Common.{◌≡◌, Bool, true, false, not, List, Some, refl, sym, ap, ◌∙◌}
use Rattle.std.specs.Prelude.{is_some}
use Rattle.std.specs.List.{slice_get}
use Rattle.hal_schema.specs.declared.row.Row.{Row}
use Rattle.hal_schema.specs.declared.schema.IndexDef.{IndexDef}
use Rattle.position_state.specs.Looks.{taken_by}
use Rattle.call_changes.specs.Inserts.{enters_by, new_entry_key}
use Rattle.call_changes.proofs.Looking.{where_told, told_at}
use Rattle.call_changes.proofs.Entering.{freely_entered}
use Rattle.call_changes.proofs.Moving.{index_is, looked_taken}
use Rattle.call_changes.proofs.enters.enters_freely.Goals as goal

turned : (a b : Bool) → a ≡ not b → b ≡ not a
turned true true h = h
turned true false h = refl
turned false true h = refl
turned false false h = h

pub returns-in_ok-taken-in-Some-clause-enters : goal.returns-in_ok-taken-in-Some-clause-enters
returns-in_ok-taken-in-Some-clause-enters g c =
    let a = g.W.Walk.seen c.args.walk.now in
    let schema = c.args.schema.now in
    let key = c.as_slice-in-Some.result.now in
    where_told a.forest (λ (rows : List Row). (index : IndexDef) → slice_get schema.indexes c.args.place ≡ Some index → c.is_none.result ≡ enters_by schema.types rows c.args.code c.args.keys.now c.args.content.now index)
    (λ rows e index at.
    let same = index_is schema.indexes c.as_slice.result.now c.args.place c.index-as_slice-place.result index c.index-as_slice-place.is c.as_slice.ensures at in
    turned (is_some c.in_ok-taken-in-Some.field-0) c.is_none.result c.is_none.ensures
    ∙ freely_entered schema.types rows c.args.code c.args.keys.now c.args.content.now index key (is_some c.in_ok-taken-in-Some.field-0)
    (ap (λ (i : IndexDef). new_entry_key i c.args.code c.args.keys.now c.args.content.now) (sym same) ∙ sym c.in_ok-new_key.ensures ∙ c.in-Some.is ∙ ap (λ (k : List _). Some k) (sym c.as_slice-in-Some.ensures))
    (looked_taken a schema rows c.args.place index key c.in_ok-taken-in-Some.field-0 c.requires.schema at (told_at a.forest rows (λ (r : List Row). c.in_ok-taken-in-Some.field-0 ≡ taken_by a.schema c.args.place key r) e c.in_ok-taken-in-Some.ensures.names)))
