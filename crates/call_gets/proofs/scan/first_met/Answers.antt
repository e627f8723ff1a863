use Rattle.std.proofs.Common.{ℕ, ◌+◌, ◌≤◌, List, Some, refl, sym, subst, ◌∙◌, arith}
use Rattle.std.proofs.lemmas.Result.{err_from_is_err_and}
use Rattle.hal_schema.specs.declared.row.Row.{Row}
use Rattle.position_state.specs.declared.walk.WalkFault.TheVariants.{Failed}
use Rattle.call_gets.specs.declared.scan.Step.{Step}
use Rattle.call_gets.specs.Passed.{IsCloser, passed_from}
use Rattle.call_gets.specs.Scan.{IsNearer, IsStep, from_on, inside_ahead, met_from, plain_view}
use Rattle.call_gets.proofs.Looking.{on_none, on_then, on_as, ok_not_err, one_fault, where_told, told_at, told_after}
use Rattle.call_gets.proofs.Moving.{Moved, ahead_end, ahead_on, moved_down, moved_found, moved_on}
use Rattle.call_gets.proofs.Passing.{Passes, passes_on}
use Rattle.call_gets.proofs.scan.first_met.Goals as goal

pub loop-step-init : goal.loop-step-init
loop-step-init g c =
    let a = g.W.Walk.seen c.args.walk.now in
    let schema = c.args.schema.now in
    record {
      live = c.requires.live;
      looked = on_none a c.requires.live (λ never. never);
      few = λ h. where_told a.forest (λ (rows : List Row). let n : ℕ = inside_ahead c.args.top (from_on (plain_view schema rows) c.args.first) in a.looks + n ≤ a.looks + n) (λ rows e. omega arith);
      passing = λ lead h. where_told a.forest (λ (rows : List Row). Passes schema (plain_view schema rows) c.args.ssas.now c.args.path.items c.args.first c.args.path.items c.args.first a.looks a.looks) (λ rows e. record { lead = lead; left = omega arith });
      moved = where_told a.forest (λ (rows : List Row). Moved schema (plain_view schema rows) c.args.ssas.now c.args.top c.args.path.items c.args.first c.args.path.items c.args.first)
          (λ rows e. record { same = refl; found = c.requires.shown rows e; down = c.requires.down rows e });
    }

pub move_on-requires-clause-shown : goal.move_on-requires-clause-shown
move_on-requires-clause-shown g c = λ rows e.
    let a = g.W.Walk.seen c.args.walk.now in
    let schema = c.args.schema.now in
    let i = c.loop-step.invariant in
    moved_found schema (plain_view schema rows) c.args.ssas.now c.args.top c.args.path.items c.args.first c.loop-step.path.items c.loop-step.next c.in-Some.spot
    (told_at a.forest rows (λ (r : List Row). Moved schema (plain_view schema r) c.args.ssas.now c.args.top c.args.path.items c.args.first c.loop-step.path.items c.loop-step.next) (sym i.looked.forest ∙ e) i.moved)
    c.in-Some.is

pub move_on-requires-clause-down : goal.move_on-requires-clause-down
move_on-requires-clause-down g c = λ rows e.
    let a = g.W.Walk.seen c.args.walk.now in
    let schema = c.args.schema.now in
    let i = c.loop-step.invariant in
    moved_down schema (plain_view schema rows) c.args.ssas.now c.args.top c.args.path.items c.args.first c.loop-step.path.items c.loop-step.next c.in-Some.spot
    (told_at a.forest rows (λ (r : List Row). Moved schema (plain_view schema r) c.args.ssas.now c.args.top c.args.path.items c.args.first c.loop-step.path.items c.loop-step.next) (sym i.looked.forest ∙ e) i.moved)
    c.in-Some.is

pub returns-in_err-spot-clause-looked : goal.returns-in_err-spot-clause-looked
returns-in_err-spot-clause-looked g c =
    let p = err_from_is_err_and c.from_residual.result c.from_residual.ensures.1 in
    let q = one_fault c.move_on.result c.from_residual.result _ p.0 Failed c.in_err-spot.was p.1 p.2 in
    on_as (on_then c.loop-step.invariant.looked c.move_on.ensures.looked) q.0 q.1

pub loop-step-preserved : goal.loop-step-preserved
loop-step-preserved g c =
    let a = g.W.Walk.seen c.args.walk.now in
    let b = g.W.Walk.seen c.loop-step.walk in
    let schema = c.args.schema.now in
    let i = c.loop-step.invariant in
    record {
      live = c.move_on.ensures.looked.faults.alive (λ is. ok_not_err c.move_on.result c.in_ok-spot.field-0 Failed c.in_ok-spot.was is);
      looked = on_as (on_then i.looked c.move_on.ensures.looked) (λ is. ok_not_err c.move_on.result c.in_ok-spot.field-0 Failed c.in_ok-spot.was is) (λ never. absurd never);
      few = λ h. where_told a.forest (λ (rows : List Row). (g.W.Walk.seen c.move_on.new.walk).looks + inside_ahead c.args.top (from_on (plain_view schema rows) c.in-GoesOn.other)
          ≤ a.looks + inside_ahead c.args.top (from_on (plain_view schema rows) c.args.first))
          (λ rows e. ahead_on (plain_view schema rows) c.args.top c.args.first c.loop-step.next c.in-GoesOn.other c.in-Some.spot a.looks b.looks (g.W.Walk.seen c.move_on.new.walk).looks c.in-Some.is
          (told_at a.forest rows (λ (r : List Row). b.looks + inside_ahead c.args.top (from_on (plain_view schema r) c.loop-step.next) ≤ a.looks + inside_ahead c.args.top (from_on (plain_view schema r) c.args.first)) e (i.few h))
          (c.move_on.ensures.few h)
          (subst (IsNearer c.args.top (plain_view schema rows) c.in-Some.spot) c.in-GoesOn.is
          (told_at a.forest rows (λ (r : List Row). IsNearer c.args.top (plain_view schema r) c.in-Some.spot c.in_ok-spot.field-0) e
          (told_after a b (λ (r : List Row). IsNearer c.args.top (plain_view schema r) c.in-Some.spot c.in_ok-spot.field-0) i.looked.forest c.in_ok-spot.ensures.nearer))));
      passing = λ lead h. where_told a.forest (λ (rows : List Row). Passes schema (plain_view schema rows) c.args.ssas.now c.args.path.items c.args.first c.move_on.new.path.items c.in-GoesOn.other a.looks (g.W.Walk.seen c.move_on.new.walk).looks)
          (λ rows e. passes_on schema (plain_view schema rows) c.args.ssas.now c.args.path.items c.args.first c.loop-step.path.items c.loop-step.next c.in-Some.spot c.move_on.new.path.items c.in-GoesOn.other a.looks b.looks (g.W.Walk.seen c.move_on.new.walk).looks
          (told_at a.forest rows (λ (r : List Row). Passes schema (plain_view schema r) c.args.ssas.now c.args.path.items c.args.first c.loop-step.path.items c.loop-step.next a.looks b.looks) e (i.passing lead h))
          c.in-Some.is (c.move_on.ensures.few h)
          (subst (λ (s : Step). IsCloser schema (plain_view schema rows) c.args.ssas.now c.loop-step.path.items c.in-Some.spot c.move_on.new.path.items s) c.in-GoesOn.is
          (told_at a.forest rows (λ (r : List Row). IsCloser schema (plain_view schema r) c.args.ssas.now c.loop-step.path.items c.in-Some.spot c.move_on.new.path.items c.in_ok-spot.field-0) e
          (told_after a b (λ (r : List Row). IsCloser schema (plain_view schema r) c.args.ssas.now c.loop-step.path.items c.in-Some.spot c.move_on.new.path.items c.in_ok-spot.field-0) i.looked.forest c.in_ok-spot.ensures.closer))));
      moved = where_told a.forest (λ (rows : List Row). Moved schema (plain_view schema rows) c.args.ssas.now c.args.top c.args.path.items c.args.first c.move_on.new.path.items c.in-GoesOn.other)
          (λ rows e. moved_on schema (plain_view schema rows) c.args.ssas.now c.args.top c.args.path.items c.args.first c.loop-step.path.items c.loop-step.next c.in-Some.spot c.move_on.new.path.items c.in-GoesOn.other
          (told_at a.forest rows (λ (r : List Row). Moved schema (plain_view schema r) c.args.ssas.now c.args.top c.args.path.items c.args.first c.loop-step.path.items c.loop-step.next) e i.moved) c.in-Some.is
          (subst (λ (s : Step). IsStep schema (plain_view schema rows) c.args.ssas.now c.args.top (met_from schema (plain_view schema rows) c.args.ssas.now c.args.top c.loop-step.path.items (Some c.in-Some.spot)) c.move_on.new.path.items s) c.in-GoesOn.is
          (told_at a.forest rows (λ (r : List Row). IsStep schema (plain_view schema r) c.args.ssas.now c.args.top (met_from schema (plain_view schema r) c.args.ssas.now c.args.top c.loop-step.path.items (Some c.in-Some.spot)) c.move_on.new.path.items c.in_ok-spot.field-0) e
          (told_after a b (λ (r : List Row). IsStep schema (plain_view schema r) c.args.ssas.now c.args.top (met_from schema (plain_view schema r) c.args.ssas.now c.args.top c.loop-step.path.items (Some c.in-Some.spot)) c.move_on.new.path.items c.in_ok-spot.field-0) i.looked.forest c.in_ok-spot.ensures.step))));
    }

pub returns-in-Ends-clause-few : goal.returns-in-Ends-clause-few
returns-in-Ends-clause-few g c = λ h.
    let a = g.W.Walk.seen c.args.walk.now in
    let b = g.W.Walk.seen c.loop-step.walk in
    let new = g.W.Walk.seen c.move_on.new.walk in
    let schema = c.args.schema.now in
    let i = c.loop-step.invariant in
    where_told a.forest (λ (rows : List Row). new.looks ≤ a.looks + inside_ahead c.args.top (from_on (plain_view schema rows) c.args.first))
    (λ rows e. ahead_end (plain_view schema rows) c.args.top c.args.first c.loop-step.next c.in-Some.spot a.looks b.looks new.looks c.in-Some.is (sym c.is_inside.ensures ∙ c.if-not-is_inside.false)
    (told_at a.forest rows (λ (r : List Row). b.looks + inside_ahead c.args.top (from_on (plain_view schema r) c.loop-step.next) ≤ a.looks + inside_ahead c.args.top (from_on (plain_view schema r) c.args.first)) e (i.few h))
    (c.move_on.ensures.few h))

-- a look for each that is passed

pub returns-in-Ends-clause-passing : goal.returns-in-Ends-clause-passing
returns-in-Ends-clause-passing g c = λ lead h.
    let a = g.W.Walk.seen c.args.walk.now in
    let b = g.W.Walk.seen c.loop-step.walk in
    let new = g.W.Walk.seen c.move_on.new.walk in
    let schema = c.args.schema.now in
    where_told a.forest (λ (rows : List Row). new.looks ≤ a.looks + (1 + passed_from schema (plain_view schema rows) c.args.ssas.now c.args.path.items c.args.first))
    (λ rows e. let p = told_at a.forest rows (λ (r : List Row). Passes schema (plain_view schema r) c.args.ssas.now c.args.path.items c.args.first c.loop-step.path.items c.loop-step.next a.looks b.looks) e (c.loop-step.invariant.passing lead h) in
    omega (arith, p.left, c.move_on.ensures.few h))
