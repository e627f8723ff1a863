use Rattle.std.proofs.Common.{◌≡◌, ◌∙◌, ◌+◌, None, false, true, refl, sym, ap, subst, arith}
use Rattle.std.proofs.lemmas.Result.{err_from_is_err_and}
use Rattle.hal_schema.specs.Span.{without_span}
use Rattle.position_state.specs.declared.session.Anchor.{Anchor}
use Rattle.position_state.specs.declared.session.Anchor.TheVariants.{At}
use Rattle.position_state.specs.declared.walk.WalkFault.TheVariants.{Failed}
use Rattle.position_state.specs.View.{view_of}
use Rattle.position_state.specs.Looks.{Shows, above, found_at}
use Rattle.position_state.specs.AfterChange.{is_gone}
use Rattle.position_state.proofs.Climbing.{Climbs, climb_begins, climb_goes, climb_hits, climb_ends, climb_tops, level_high, level_shown, level_within, place_at, deletion_at, found_stands}
use Rattle.position_state.proofs.Looking.{looked_one, looks_then, looks_as, looks_more, one_fault, ok_not_err, where_told, told_at, shows_at}
use Rattle.position_state.proofs.kept.is_below.Goals as goal

pub returns-in_err-spot-clause-looked : goal.returns-in_err-spot-clause-looked
returns-in_err-spot-clause-looked g c =
    let p = err_from_is_err_and c.from_residual-in_err-spot.result c.from_residual-in_err-spot.ensures.1 in
    let q = one_fault c.here.result c.from_residual-in_err-spot.result _ p.0 Failed c.in_err-spot.was p.1 p.2 in
    looks_as (looks_more (looked_one c.here.ensures.looked) (level_high (g.W.Walk.seen c.args.walk.now) c.args.other.now c.args.key.now (g.met.W.Walk.keeps_forest c.args.walk.now) c.requires.there)) q.0 q.1

pub loop-step-init : goal.loop-step-init
loop-step-init g c =
    let a = g.W.Walk.seen c.args.walk.now in
    let at = At c.args.other.now c.args.key.now None in
    record {
      live = c.here.ensures.looked.faults.alive (λ is. ok_not_err c.here.result c.in_ok-spot.field-0 Failed c.in_ok-spot.was is);
      looked = looks_as (looked_one c.here.ensures.looked) (λ is. ok_not_err c.here.result c.in_ok-spot.field-0 Failed c.in_ok-spot.was is) (λ never. absurd never);
      few = omega arith;
      level = level_shown a c.args.other.now c.args.key.now c.in-Some.spot c.in_ok-spot.field-0 c.requires.there (subst (λ (p : Anchor). Shows a None (found_at p) c.in_ok-spot.field-0) c.in_ok-at.ensures c.in_ok-spot.ensures.shows) c.in-Some.is;
      climbs = where_told a.forest (λ rows. Climbs a.schema rows c.args.name.now at c.in-Some.spot.level 1 c.in-Some.spot)
          (λ rows e. climb_begins a.schema rows c.args.name.now c.args.other.now c.args.key.now c.in-Some.spot (place_at a rows at e c.requires.there) c.requires.apart
          (sym c.in-Some.is ∙ shows_at a a rows None (found_at c.in_ok-at.at) c.in_ok-spot.field-0 refl refl e c.in_ok-spot.ensures.shows ∙ ap (λ p. found_at p (view_of a.schema None rows)) c.in_ok-at.ensures));
    }

pub above-requires-clause-live : goal.above-requires-clause-live
above-requires-clause-live g c = c.loop-step.invariant.live

pub above-requires-clause-there : goal.above-requires-clause-there
above-requires-clause-there g c =
    let a = g.W.Walk.seen c.args.walk.now in
    let i = c.loop-step.invariant in
    found_stands a (g.W.Walk.seen c.loop-step.walk) c.loop-step.spot i.looked.schema i.looked.forest
    (where_told a.forest _ (λ rows e. (told_at a.forest rows (λ r. Climbs a.schema r c.args.name.now (At c.args.other.now c.args.key.now None) c.in-Some.spot.level c.loop-step._step c.loop-step.spot) e i.climbs).found))

pub returns-in_err-above-clause-looked : goal.returns-in_err-above-clause-looked
returns-in_err-above-clause-looked g c =
    let p = err_from_is_err_and c.from_residual-in_err-above.result c.from_residual-in_err-above.ensures.1 in
    let q = one_fault c.above.result c.from_residual-in_err-above.result _ p.0 Failed c.in_err-above.was p.1 p.2 in
    looks_as (looks_more (looks_then c.loop-step._step 1 c.loop-step.invariant.looked (looked_one c.above.ensures.looked)) (omega (arith, level_within (g.W.Walk.seen c.args.walk.now) c.args.other.now c.args.key.now c.in-Some.spot.level c.loop-step.invariant.level (omega arith)))) q.0 q.1

pub returns-in_default-2-clause-cut : goal.returns-in_default-2-clause-cut
returns-in_default-2-clause-cut g c =
    let a = g.W.Walk.seen c.args.walk.now in
    let b = g.W.Walk.seen c.loop-step.walk in
    let at = At c.args.other.now c.args.key.now None in
    let i = c.loop-step.invariant in
    let none : c.in_ok-above.field-0 ≡ None = c.in_default-2.is in
    where_told a.forest (λ rows. false ≡ is_gone (without_span a.schema.types rows c.args.name.now) at)
    (λ rows e. climb_ends a.schema rows c.args.name.now at c.in-Some.spot.level c.loop-step._step c.loop-step.spot
    (deletion_at a rows c.args.name.now (g.met.W.Walk.keeps_forest c.args.walk.now) e (c.requires.row rows e))
    (told_at a.forest rows (λ r. Climbs a.schema r c.args.name.now at c.in-Some.spot.level c.loop-step._step c.loop-step.spot) e i.climbs)
    (sym none ∙ shows_at a b rows None (above c.loop-step.spot) c.in_ok-above.field-0 i.looked.schema i.looked.forest e c.in_ok-above.ensures.shows))

pub returns-in_default-2-clause-looked : goal.returns-in_default-2-clause-looked
returns-in_default-2-clause-looked g c =
    looks_as (looks_more (looks_then c.loop-step._step 1 c.loop-step.invariant.looked (looked_one c.above.ensures.looked)) (omega (arith, level_within (g.W.Walk.seen c.args.walk.now) c.args.other.now c.args.key.now c.in-Some.spot.level c.loop-step.invariant.level (omega arith))))
    (λ is. absurd (ok_not_err c.above.result c.in_ok-above.field-0 Failed c.in_ok-above.was is)) (λ is. cc)

pub returns-then-is_row_at-clause-cut : goal.returns-then-is_row_at-clause-cut
returns-then-is_row_at-clause-cut g c =
    let a = g.W.Walk.seen c.args.walk.now in
    let b = g.W.Walk.seen c.loop-step.walk in
    let at = At c.args.other.now c.args.key.now None in
    let i = c.loop-step.invariant in
    where_told a.forest (λ rows. true ≡ is_gone (without_span a.schema.types rows c.args.name.now) at)
    (λ rows e. climb_hits a.schema rows c.args.name.now at c.in-Some.spot.level c.loop-step._step c.loop-step.spot c.in-Some-2.above
    (deletion_at a rows c.args.name.now (g.met.W.Walk.keeps_forest c.args.walk.now) e (c.requires.row rows e))
    (told_at a.forest rows (λ r. Climbs a.schema r c.args.name.now at c.in-Some.spot.level c.loop-step._step c.loop-step.spot) e i.climbs)
    (sym c.in-Some-2.is ∙ shows_at a b rows None (above c.loop-step.spot) c.in_ok-above.field-0 i.looked.schema i.looked.forest e c.in_ok-above.ensures.shows)
    (sym c.is_row_at.ensures ∙ c.if-is_row_at.true))

pub returns-then-is_row_at-clause-looked : goal.returns-then-is_row_at-clause-looked
returns-then-is_row_at-clause-looked g c =
    looks_as (looks_more (looks_then c.loop-step._step 1 c.loop-step.invariant.looked (looked_one c.above.ensures.looked)) (omega (arith, level_within (g.W.Walk.seen c.args.walk.now) c.args.other.now c.args.key.now c.in-Some.spot.level c.loop-step.invariant.level (omega arith))))
    (λ is. absurd (ok_not_err c.above.result c.in_ok-above.field-0 Failed c.in_ok-above.was is)) (λ is. cc)

pub loop-step-preserved : goal.loop-step-preserved
loop-step-preserved g c =
    let a = g.W.Walk.seen c.args.walk.now in
    let b = g.W.Walk.seen c.loop-step.walk in
    let at = At c.args.other.now c.args.key.now None in
    let i = c.loop-step.invariant in
    record {
      live = c.above.ensures.looked.faults.alive (λ is. ok_not_err c.above.result c.in_ok-above.field-0 Failed c.in_ok-above.was is);
      looked = looks_as (looks_then c.loop-step._step 1 i.looked (looked_one c.above.ensures.looked)) (λ is. ok_not_err c.above.result c.in_ok-above.field-0 Failed c.in_ok-above.was is) (λ never. absurd never);
      few = omega arith;
      level = i.level;
      climbs = where_told a.forest (λ rows. Climbs a.schema rows c.args.name.now at c.in-Some.spot.level (c.loop-step._step + 1) c.in-Some-2.above)
          (λ rows e. climb_goes a.schema rows c.args.name.now at c.in-Some.spot.level c.loop-step._step c.loop-step.spot c.in-Some-2.above
          (deletion_at a rows c.args.name.now (g.met.W.Walk.keeps_forest c.args.walk.now) e (c.requires.row rows e))
          (told_at a.forest rows (λ r. Climbs a.schema r c.args.name.now at c.in-Some.spot.level c.loop-step._step c.loop-step.spot) e i.climbs)
          (sym c.in-Some-2.is ∙ shows_at a b rows None (above c.loop-step.spot) c.in_ok-above.field-0 i.looked.schema i.looked.forest e c.in_ok-above.ensures.shows)
          (sym c.is_row_at.ensures ∙ c.if-is_row_at.false));
    }

pub returns-clause-cut : goal.returns-clause-cut
returns-clause-cut g c =
    let a = g.W.Walk.seen c.args.walk.now in
    let at = At c.args.other.now c.args.key.now None in
    where_told a.forest (λ rows. false ≡ is_gone (without_span a.schema.types rows c.args.name.now) at)
    (λ rows e. climb_tops a.schema rows c.args.name.now at c.in-Some.spot.level c.loop-step._step c.loop-step.spot
    (deletion_at a rows c.args.name.now (g.met.W.Walk.keeps_forest c.args.walk.now) e (c.requires.row rows e))
    (told_at a.forest rows (λ r. Climbs a.schema r c.args.name.now at c.in-Some.spot.level c.loop-step._step c.loop-step.spot) e c.loop-step.invariant.climbs)
    (omega arith))

pub returns-clause-looked : goal.returns-clause-looked
returns-clause-looked g c =
    let a = g.W.Walk.seen c.args.walk.now in
    let high = level_high a c.args.other.now c.args.key.now (g.met.W.Walk.keeps_forest c.args.walk.now) c.requires.there in
    looks_as (looks_more c.loop-step.invariant.looked (omega (arith, high, level_within (g.W.Walk.seen c.args.walk.now) c.args.other.now c.args.key.now c.in-Some.spot.level c.loop-step.invariant.level (omega arith)))) (λ never. absurd never) (λ is. cc)
