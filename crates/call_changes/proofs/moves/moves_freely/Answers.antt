use Rattle.std.proofs.Common.{◌≡◌, true, false, List, Option, None, Some, sym, ap, ◌∙◌}
use Rattle.std.specs.Prelude.{is_some}
use Rattle.std.specs.List.{slice_get}
use Rattle.hal_base.specs.declared.place.Ilk.{Ilk}
use Rattle.hal_schema.specs.declared.row.Row.{Row}
use Rattle.hal_schema.specs.declared.schema.IndexDef.{IndexDef}
use Rattle.position_state.specs.Looks.{taken_by}
use Rattle.call_changes.specs.Moves.{moved_key, moves_freely}
use Rattle.call_changes.proofs.Looking.{where_told, told_at}
use Rattle.call_changes.proofs.Moving.{freely_moved, index_is, looked_taken}
use Rattle.call_changes.proofs.moves.moves_freely.Goals as goal

pub returns-in-None-2-clause-moves : goal.returns-in-None-2-clause-moves
returns-in-None-2-clause-moves g c =
    let a = g.W.Walk.seen c.args.walk.now in
    let schema = c.args.schema.now in
    let key = c.as_slice-in-Some.result.now in
    where_told a.forest (λ (rows : List Row). (index : IndexDef) → slice_get schema.indexes c.args.place ≡ Some index → Some true ≡ moves_freely schema.types rows c.args.row.now c.args.content.now index)
    (λ rows e index at.
    let same = index_is schema.indexes c.as_slice.result.now c.args.place c.index-as_slice-place.result index c.index-as_slice-place.is c.as_slice.ensures at in
    freely_moved schema.types rows c.args.row.now c.args.content.now index key false
    (ap (λ (i : IndexDef). moved_key i c.args.row.now c.args.content.now) (sym same) ∙ sym c.in_ok-moved_key.ensures ∙ c.in-Some.is ∙ ap (λ (k : List _). Some k) (sym c.as_slice-in-Some.ensures))
    (looked_taken a schema rows c.args.place index key c.in_ok-taken-in-Some.field-0 c.requires.schema at (told_at a.forest rows (λ (r : List Row). c.in_ok-taken-in-Some.field-0 ≡ taken_by a.schema c.args.place key r) e c.in_ok-taken-in-Some.ensures.names)
    ∙ ap (λ (o : Option Ilk). is_some o) c.in-None-2.is))

pub returns-clause-moves : goal.returns-clause-moves
returns-clause-moves g c =
    let a = g.W.Walk.seen c.args.walk.now in
    let schema = c.args.schema.now in
    let key = c.as_slice-in-Some.result.now in
    where_told a.forest (λ (rows : List Row). (index : IndexDef) → slice_get schema.indexes c.args.place ≡ Some index → None ≡ moves_freely schema.types rows c.args.row.now c.args.content.now index)
    (λ rows e index at.
    let same = index_is schema.indexes c.as_slice.result.now c.args.place c.index-as_slice-place.result index c.index-as_slice-place.is c.as_slice.ensures at in
    freely_moved schema.types rows c.args.row.now c.args.content.now index key true
    (ap (λ (i : IndexDef). moved_key i c.args.row.now c.args.content.now) (sym same) ∙ sym c.in_ok-moved_key.ensures ∙ c.in-Some.is ∙ ap (λ (k : List _). Some k) (sym c.as_slice-in-Some.ensures))
    (looked_taken a schema rows c.args.place index key c.in_ok-taken-in-Some.field-0 c.requires.schema at (told_at a.forest rows (λ (r : List Row). c.in_ok-taken-in-Some.field-0 ≡ taken_by a.schema c.args.place key r) e c.in_ok-taken-in-Some.ensures.names)
    ∙ ap (λ (o : Option Ilk). is_some o) c.in-Some-2.is))
