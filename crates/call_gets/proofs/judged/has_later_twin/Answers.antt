use Rattle.std.proofs.Common.{arith, List, None, refl, sym, subst, ◌∙◌}
use Rattle.hal_schema.specs.declared.row.Row.{Row}
use Rattle.position_state.specs.declared.spot.Spot.{Spot}
use Rattle.position_state.specs.declared.walk.WalkFault.TheVariants.{Failed}
use Rattle.position_state.specs.Looks.{past}
use Rattle.dli_calls.specs.Meets.{clauses_hold, later_twins}
use Rattle.dli_calls.specs.Ssas.{clause_holds}
use Rattle.std.specs.List.{list_any}
use Rattle.std.proofs.Common.{◌≡◌, true}
use Rattle.call_gets.specs.Scan.{plain_view}
use Rattle.call_gets.proofs.Looking.{on_one, on_then, on_as, ok_not_err, where_told, told_at, shows_for, keeps_told}
use Rattle.call_gets.proofs.Twins.{TwinsLeft, twins_begin, twins_go, twins_hit}
use Rattle.call_gets.proofs.judged.has_later_twin.Goals as goal

pub loop-look-init : goal.loop-look-init
loop-look-init g c =
    let a = g.W.Walk.seen c.args.walk.now in
    let test = λ (other : Spot). clauses_hold (clause_holds c.args.schema.now None c.args.spot.now.code other) c.args.ssa.now.clauses in
    record {
      live = c.past.ensures.looked.faults.alive (λ is. ok_not_err c.past.result c.in_ok-next.next Failed c.in_ok-next.was is);
      looked = on_as (on_one c.past.ensures.looked) (λ is. ok_not_err c.past.result c.in_ok-next.next Failed c.in_ok-next.was is) (λ never. absurd never);
      left = where_told a.forest (λ (rows : List Row). TwinsLeft (plain_view c.args.schema.now rows) test c.args.spot.now c.in_ok-next.next)
          (λ rows e. twins_begin c.args.schema.now.types (plain_view c.args.schema.now rows) test c.args.spot.now c.in_ok-next.next
          (keeps_told c.places_differ.ensures c.levels_are_of_types.ensures a c.args.schema.now rows (g.met.W.Walk.keeps_forest c.args.walk.now) c.requires.schema e) (c.requires.shown rows e)
          (shows_for a a c.args.schema.now rows (past c.args.spot.now) c.in_ok-next.next refl refl c.requires.schema e c.in_ok-next.ensures.shows));
    }

pub returns-then-branch-clause-has : goal.returns-then-branch-clause-has
returns-then-branch-clause-has g c =
    let a = g.W.Walk.seen c.args.walk.now in
    let i = c.loop-look.invariant in
    let test = λ (other : Spot). clauses_hold (clause_holds c.args.schema.now None c.args.spot.now.code other) c.args.ssa.now.clauses in
    where_told a.forest (λ (rows : List Row). true ≡ list_any test (later_twins (plain_view c.args.schema.now rows) c.args.spot.now))
    (λ rows e. twins_hit (plain_view c.args.schema.now rows) test c.args.spot.now c.in-Some.other
    (subst (TwinsLeft (plain_view c.args.schema.now rows) test c.args.spot.now) c.in-Some.is (told_at a.forest rows (λ (r : List Row). TwinsLeft (plain_view c.args.schema.now r) test c.args.spot.now c.loop-look.next) e i.left))
    (λ lt. omega (arith, lt, c.if-other-spot.false)) (sym c.in_ok-is_such_twin.ensures ∙ c.if-branch.true))

pub loop-look-preserved : goal.loop-look-preserved
loop-look-preserved g c =
    let a = g.W.Walk.seen c.args.walk.now in
    let b = g.W.Walk.seen c.loop-look.walk in
    let i = c.loop-look.invariant in
    let test = λ (other : Spot). clauses_hold (clause_holds c.args.schema.now None c.args.spot.now.code other) c.args.ssa.now.clauses in
    record {
      live = c.past-in-loop-look.ensures.looked.faults.alive (λ is. ok_not_err c.past-in-loop-look.result c.in_ok-next-2.next Failed c.in_ok-next-2.was is);
      looked = on_as (on_then i.looked (on_one c.past-in-loop-look.ensures.looked)) (λ is. ok_not_err c.past-in-loop-look.result c.in_ok-next-2.next Failed c.in_ok-next-2.was is) (λ never. absurd never);
      left = where_told a.forest (λ (rows : List Row). TwinsLeft (plain_view c.args.schema.now rows) test c.args.spot.now c.in_ok-next-2.next)
          (λ rows e. twins_go c.args.schema.now.types (plain_view c.args.schema.now rows) test c.args.spot.now c.in-Some.other c.in_ok-next-2.next
          (keeps_told c.places_differ.ensures c.levels_are_of_types.ensures a c.args.schema.now rows (g.met.W.Walk.keeps_forest c.args.walk.now) c.requires.schema e) (c.requires.shown rows e)
          (subst (TwinsLeft (plain_view c.args.schema.now rows) test c.args.spot.now) c.in-Some.is (told_at a.forest rows (λ (r : List Row). TwinsLeft (plain_view c.args.schema.now r) test c.args.spot.now c.loop-look.next) e i.left))
          (λ lt. omega (arith, lt, c.if-other-spot.false)) (sym c.in_ok-is_such_twin.ensures ∙ c.if-branch.false)
          (shows_for a b c.args.schema.now rows (past c.in-Some.other) c.in_ok-next-2.next i.looked.schema i.looked.forest c.requires.schema e c.in_ok-next-2.ensures.shows));
    }
