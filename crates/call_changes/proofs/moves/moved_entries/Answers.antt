use Rattle.std.proofs.Common.{◌≡◌, ◌≤◌, ◌+◌, Bool, true, false, List, None, Some, cond, sym, ap, ◌∙◌, take, arith}
use Rattle.std.specs.List.{slice_get}
use Rattle.hal_schema.specs.declared.row.Row.{Row}
use Rattle.hal_schema.specs.declared.schema.IndexDef.{IndexDef}
use Rattle.position_state.specs.declared.walk.WalkFault.TheVariants.{Failed}
use Rattle.call_changes.specs.Moves.{moved_entries, moves_freely}
use Rattle.call_changes.proofs.Looking.{ok_not_err, told_at, up_as, up_then, where_told}
use Rattle.call_changes.proofs.Moving.{moved_step, moved_stop}
use Rattle.call_changes.proofs.moves.moved_entries.Goals as goal

pub returns-in_default-clause-moved : goal.returns-in_default-clause-moved
returns-in_default-clause-moved g c =
    let a = g.W.Walk.seen c.args.walk.now in
    let b = g.W.Walk.seen c.loop-place.walk in
    let schema = c.args.schema.now in
    where_told a.forest (λ (rows : List Row). None ≡ moved_entries schema.types rows c.args.row.now c.args.content.now schema.indexes)
    (λ rows e. moved_stop schema.types rows c.args.row.now c.args.content.now schema.indexes c.loop-place.place (omega (arith, c.len-count.ensures))
    (λ index at. sym c.in_default.is ∙ told_at b.forest rows (λ (r : List Row). (index : IndexDef) → slice_get schema.indexes c.loop-place.place ≡ Some index → c.in_ok-moves.field-0 ≡ moves_freely schema.types r c.args.row.now c.args.content.now index)
    (c.loop-place.invariant.looked.forest ∙ e) c.in_ok-moves.ensures.moves index at))

pub loop-place-preserved : goal.loop-place-preserved
loop-place-preserved g c =
    let a = g.W.Walk.seen c.args.walk.now in
    let b = g.W.Walk.seen c.loop-place.walk in
    let i = c.loop-place.invariant in
    let schema = c.args.schema.now in
    record {
      live = c.moves_freely.ensures.looked.faults.alive (λ is. ok_not_err c.moves_freely.result c.in_ok-moves.field-0 Failed c.in_ok-moves.was is);
      looked = up_as (up_then i.looked c.moves_freely.ensures.looked) (λ is. ok_not_err c.moves_freely.result c.in_ok-moves.field-0 Failed c.in_ok-moves.was is) (λ never. absurd never);
      few = few c.in-Some.moves (ap (λ n. n) c.counted-moved.ensures);
      moved = where_told a.forest (λ (rows : List Row). moved_entries schema.types rows c.args.row.now c.args.content.now (take (c.loop-place.place + 1) schema.indexes) ≡ Some c.counted-moved.result)
          (λ rows e. moved_step schema.types rows c.args.row.now c.args.content.now schema.indexes c.loop-place.place c.loop-place.moved c.counted-moved.result c.in-Some.moves (omega (arith, c.len-count.ensures))
          (λ index at. sym c.in-Some.is ∙ told_at b.forest rows (λ (r : List Row). (index : IndexDef) → slice_get schema.indexes c.loop-place.place ≡ Some index → c.in_ok-moves.field-0 ≡ moves_freely schema.types r c.args.row.now c.args.content.now index)
          (i.looked.forest ∙ e) c.in_ok-moves.ensures.moves index at)
          (told_at a.forest rows (λ (r : List Row). moved_entries schema.types r c.args.row.now c.args.content.now (take c.loop-place.place schema.indexes) ≡ Some c.loop-place.moved) e i.moved) c.counted-moved.ensures);
    }
  where
    few : (m : Bool) → c.counted-moved.result ≡ cond m (c.loop-place.moved + 1) c.loop-place.moved → c.counted-moved.result ≤ c.loop-place.place + 1
    few true is = omega (arith, is, c.loop-place.invariant.few)
    few false is = omega (arith, is, c.loop-place.invariant.few)
