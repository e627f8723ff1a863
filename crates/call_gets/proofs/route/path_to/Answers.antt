use Rattle.std.proofs.Common.{List, length, refl, sym, ap, subst, ◌∙◌, arith}
use Rattle.std.proofs.lemmas.Result.{err_from_is_err_and}
use Rattle.hal_schema.specs.declared.row.Row.{Row}
use Rattle.position_state.specs.declared.walk.WalkFault.TheVariants.{Failed}
use Rattle.position_state.specs.declared.spot.Spot.{Spot}
use Rattle.position_state.specs.Looks.{above, found_at}
use Rattle.call_gets.specs.Scan.{IsPath, plain_view}
use Rattle.call_gets.proofs.Looking.{one_more, on_one, on_then, on_as, ok_not_err, one_fault, where_told, told_at, shows_for, stands_at, differ_told}
use Rattle.call_gets.proofs.Stepping.{place_of_found}
use Rattle.call_gets.proofs.Routing.{Climbing, climbing_begins, climbing_goes, climbing_ends}
use Rattle.call_gets.proofs.route.path_to.Goals as goal

pub loop-step-init : goal.loop-step-init
loop-step-init g c =
    let a = g.W.Walk.seen c.args.walk.now in
    record {
      live = c.here.ensures.looked.faults.alive (λ is. ok_not_err c.here.result c.in_ok-spot.field-0 Failed c.in_ok-spot.was is);
      looked = on_as (on_one c.here.ensures.looked) (λ is. ok_not_err c.here.result c.in_ok-spot.field-0 Failed c.in_ok-spot.was is) (λ never. absurd never);
      few = omega (arith, one_more c.here.ensures.looked);
      climbs = where_told a.forest (λ (rows : List Row). Climbing (plain_view a.schema rows) c.args.at.now c.in-Some.spot c.new-path.result.items)
          (λ rows e. subst (Climbing (plain_view a.schema rows) c.args.at.now c.in-Some.spot) (sym c.new-path.ensures.items)
          (climbing_begins (plain_view a.schema rows) c.args.at.now c.in-Some.spot (differ_told c.places_differ.ensures a a.schema rows (g.met.W.Walk.keeps_forest c.args.walk.now) refl e)
          (sym (shows_for a a a.schema rows (found_at c.args.at.now) c.in_ok-spot.field-0 refl refl refl e c.in_ok-spot.ensures.shows) ∙ c.in-Some.is)));
    }

pub above-requires-clause-there : goal.above-requires-clause-there
above-requires-clause-there g c =
    let a = g.W.Walk.seen c.args.walk.now in
    let i = c.loop-step.invariant in
    stands_at a (g.W.Walk.seen c.loop-step.walk) a.schema c.loop-step.low.at i.looked.schema i.looked.forest refl
    (λ rows e. place_of_found (plain_view a.schema rows) c.loop-step.low (differ_told c.places_differ.ensures a a.schema rows (g.met.W.Walk.keeps_forest c.args.walk.now) refl e)
    (told_at a.forest rows (λ (r : List Row). Climbing (plain_view a.schema r) c.args.at.now c.loop-step.low c.loop-step.path.items) e i.climbs).found)

pub returns-in_err-above-clause-looked : goal.returns-in_err-above-clause-looked
returns-in_err-above-clause-looked g c =
    let p = err_from_is_err_and c.from_residual-in_err-above.result c.from_residual-in_err-above.ensures.1 in
    let q = one_fault c.above.result c.from_residual-in_err-above.result _ p.0 Failed c.in_err-above.was p.1 p.2 in
    on_as (on_then c.loop-step.invariant.looked (on_one c.above.ensures.looked)) q.0 q.1

pub returns-in-None-clause-path : goal.returns-in-None-clause-path
returns-in-None-clause-path g c =
    let a = g.W.Walk.seen c.args.walk.now in
    let i = c.loop-step.invariant in
    where_told a.forest (λ (rows : List Row). IsPath (plain_view a.schema rows) c.args.at.now c.lead.new.path.items)
    (λ rows e. climbing_ends (plain_view a.schema rows) c.args.at.now c.loop-step.low c.loop-step.path.items c.lead.new.path.items
    (told_at a.forest rows (λ (r : List Row). Climbing (plain_view a.schema r) c.args.at.now c.loop-step.low c.loop-step.path.items) e i.climbs)
    (sym (shows_for a (g.W.Walk.seen c.loop-step.walk) a.schema rows (above c.loop-step.low) c.in_ok-above.above i.looked.schema i.looked.forest refl e c.in_ok-above.ensures.shows) ∙ c.in-None.is)
    c.in_ok-lead.ensures)

pub loop-step-preserved : goal.loop-step-preserved
loop-step-preserved g c =
    let a = g.W.Walk.seen c.args.walk.now in
    let i = c.loop-step.invariant in
    record {
      live = c.above.ensures.looked.faults.alive (λ is. ok_not_err c.above.result c.in_ok-above.above Failed c.in_ok-above.was is);
      looked = on_as (on_then i.looked (on_one c.above.ensures.looked)) (λ is. ok_not_err c.above.result c.in_ok-above.above Failed c.in_ok-above.was is) (λ never. absurd never);
      few = let size = ap (λ (ys : List Spot). length ys) c.in_ok-lead.ensures in omega (arith, i.few, one_more c.above.ensures.looked, size);
      climbs = where_told a.forest (λ (rows : List Row). Climbing (plain_view a.schema rows) c.args.at.now c.in-Some-above.up c.lead.new.path.items)
          (λ rows e. subst (Climbing (plain_view a.schema rows) c.args.at.now c.in-Some-above.up) (sym c.in_ok-lead.ensures)
          (climbing_goes (plain_view a.schema rows) c.args.at.now c.loop-step.low c.in-Some-above.up c.loop-step.path.items (differ_told c.places_differ.ensures a a.schema rows (g.met.W.Walk.keeps_forest c.args.walk.now) refl e)
          (told_at a.forest rows (λ (r : List Row). Climbing (plain_view a.schema r) c.args.at.now c.loop-step.low c.loop-step.path.items) e i.climbs)
          (sym (shows_for a (g.W.Walk.seen c.loop-step.walk) a.schema rows (above c.loop-step.low) c.in_ok-above.above i.looked.schema i.looked.forest refl e c.in_ok-above.ensures.shows) ∙ c.in-Some-above.is)));
    }

pub returns-in-None-clause-few : goal.returns-in-None-clause-few
returns-in-None-clause-few g c =
    let size = ap (λ (ys : List Spot). length ys) c.in_ok-lead.ensures in
    omega (arith, c.loop-step.invariant.few, one_more c.above.ensures.looked, size)
