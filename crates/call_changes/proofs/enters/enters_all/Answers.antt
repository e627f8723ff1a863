use Rattle.std.proofs.Common.{◌≡◌, ◌+◌, true, false, List, Some, sym, ◌∙◌, take, arith}
use Rattle.std.specs.List.{list_all, slice_get}
use Rattle.hal_schema.specs.declared.row.Row.{Row}
use Rattle.hal_schema.specs.declared.schema.IndexDef.{IndexDef}
use Rattle.position_state.specs.declared.walk.WalkFault.TheVariants.{Failed}
use Rattle.call_gets.proofs.Looking.{on_as, on_then}
use Rattle.call_changes.specs.Inserts.{enters_by}
use Rattle.call_changes.proofs.Looking.{ok_not_err, told_at, where_told}
use Rattle.call_changes.proofs.Entering.{all_step, all_stop}
use Rattle.call_changes.proofs.enters.enters_all.Goals as goal

pub loop-place-preserved : goal.loop-place-preserved
loop-place-preserved g c =
    let a = g.W.Walk.seen c.args.walk.now in
    let b = g.W.Walk.seen c.loop-place.walk in
    let i = c.loop-place.invariant in
    let schema = c.args.schema.now in
    let test = enters_by schema.types in
    record {
      live = c.enters_freely.ensures.looked.faults.alive (λ is. ok_not_err c.enters_freely.result c.in_ok-enters_freely.field-0 Failed c.in_ok-enters_freely.was is);
      looked = on_as (on_then i.looked c.enters_freely.ensures.looked) (λ is. ok_not_err c.enters_freely.result c.in_ok-enters_freely.field-0 Failed c.in_ok-enters_freely.was is) (λ never. absurd never);
      few = omega (arith, i.few, c.enters_freely.ensures.few);
      enters = where_told a.forest (λ (rows : List Row). list_all (enters_by schema.types rows c.args.code c.args.keys.now c.args.content.now) (take (c.loop-place.place + 1) schema.indexes) ≡ true)
          (λ rows e. all_step (enters_by schema.types rows c.args.code c.args.keys.now c.args.content.now) schema.indexes c.loop-place.place (omega (arith, c.len-count.ensures))
          (λ index at. sym c.if-not-branch.false ∙ told_at b.forest rows (λ (r : List Row). (index : IndexDef) → slice_get schema.indexes c.loop-place.place ≡ Some index → c.in_ok-enters_freely.field-0 ≡ enters_by schema.types r c.args.code c.args.keys.now c.args.content.now index)
          (i.looked.forest ∙ e) c.in_ok-enters_freely.ensures.enters index at)
          (told_at a.forest rows (λ (r : List Row). list_all (enters_by schema.types r c.args.code c.args.keys.now c.args.content.now) (take c.loop-place.place schema.indexes) ≡ true) e i.enters));
    }

pub returns-then-not-branch-clause-enters : goal.returns-then-not-branch-clause-enters
returns-then-not-branch-clause-enters g c =
    let a = g.W.Walk.seen c.args.walk.now in
    let b = g.W.Walk.seen c.loop-place.walk in
    let schema = c.args.schema.now in
    where_told a.forest (λ (rows : List Row). false ≡ list_all (enters_by schema.types rows c.args.code c.args.keys.now c.args.content.now) schema.indexes)
    (λ rows e. all_stop (enters_by schema.types rows c.args.code c.args.keys.now c.args.content.now) schema.indexes c.loop-place.place (omega (arith, c.len-count.ensures))
    (λ index at. sym c.if-not-branch.true ∙ told_at b.forest rows (λ (r : List Row). (index : IndexDef) → slice_get schema.indexes c.loop-place.place ≡ Some index → c.in_ok-enters_freely.field-0 ≡ enters_by schema.types r c.args.code c.args.keys.now c.args.content.now index)
    (c.loop-place.invariant.looked.forest ∙ e) c.in_ok-enters_freely.ensures.enters index at))
