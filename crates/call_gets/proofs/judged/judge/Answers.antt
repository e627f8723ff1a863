use Rattle.std.proofs.Common.{◌≡◌, ◌+◌, true, List, [], ◌∷◌, ◌++◌, drop, sym, subst, ◌∙◌, arith}
use Rattle.std.proofs.lemmas.List.{drop_all}
use Rattle.hal_schema.specs.declared.row.Row.{Row}
use Rattle.position_state.specs.declared.walk.WalkFault.TheVariants.{Failed}
use Rattle.call_gets.specs.declared.judged.Verdict.TheVariants.{Closed}
use Rattle.call_gets.specs.Scan.{IsOn, IsVerdict, plain_view}
use Rattle.call_gets.proofs.Judging.{AllSoFar, closed_on, none_last, so_far}
use Rattle.call_gets.proofs.Leading.{closed_by_type, judged_at_last}
use Rattle.call_gets.proofs.Listing.{left_is}
use Rattle.call_gets.proofs.Looking.{on_then, on_as, ok_not_err, where_told, told_at, told_after}
use Rattle.call_gets.proofs.judged.judge.Goals as goal

pub holds_on-requires-clause-shown : goal.holds_on-requires-clause-shown
holds_on-requires-clause-shown g c = λ rows e. c.requires.shown rows (sym c.loop-ssa.invariant.looked.forest ∙ e)

pub returns-then-is_against-clause-verdict : goal.returns-then-is_against-clause-verdict
returns-then-is_against-clause-verdict g c =
    let a = g.W.Walk.seen c.args.walk.now in
    let schema = c.args.schema.now in
    let path = c.args.above.now ++ c.args.spot.now ∷ [] in
    let i = c.loop-ssa.invariant in
    where_told a.forest (λ (rows : List Row). IsVerdict schema (plain_view schema rows) c.args.ssas.now path c.args.spot.now Closed)
    (λ rows e. closed_on schema (plain_view schema rows) c.args.ssas.now path c.loop-ssa.ssa-index c.ssa-item.result c.in_ok-on.on c.loop-ssa-test.true c.ssa-item.is
    (told_at a.forest rows (λ (r : List Row). IsOn schema (plain_view schema r) path c.ssa-item.result c.in_ok-on.on) e
    (told_after a (g.W.Walk.seen c.loop-ssa.walk) (λ (r : List Row). IsOn schema (plain_view schema r) path c.ssa-item.result c.in_ok-on.on) i.looked.forest c.in_ok-on.ensures.on))
    (c.is_against.ensures.0 c.if-is_against.true))

pub loop-ssa-preserved : goal.loop-ssa-preserved
loop-ssa-preserved g c =
    let a = g.W.Walk.seen c.args.walk.now in
    let schema = c.args.schema.now in
    let path = c.args.above.now ++ c.args.spot.now ∷ [] in
    let i = c.loop-ssa.invariant in
    record {
      live = c.holds_on.ensures.looked.faults.alive (λ is. ok_not_err c.holds_on.result c.in_ok-on.on Failed c.in_ok-on.was is);
      looked = on_as (on_then i.looked c.holds_on.ensures.looked) (λ is. ok_not_err c.holds_on.result c.in_ok-on.on Failed c.in_ok-on.was is) (λ never. absurd never);
      few = λ h. omega (arith, i.few h, c.holds_on.ensures.few (none_last c.args.ssas.now c.loop-ssa.ssa-index c.ssa-item.result h c.loop-ssa-test.true c.ssa-item.is));
      all = where_told a.forest (λ (rows : List Row). AllSoFar schema (plain_view schema rows) c.args.ssas.now path c.is_still-all.result (drop (c.loop-ssa.ssa-index + 1) c.args.ssas.now))
          (λ rows e. so_far schema (plain_view schema rows) c.args.ssas.now path c.loop-ssa.all c.is_still-all.result c.ssa-item.result (drop (c.loop-ssa.ssa-index + 1) c.args.ssas.now) (drop c.loop-ssa.ssa-index c.args.ssas.now) c.in_ok-on.on
          (told_at a.forest rows (λ (r : List Row). AllSoFar schema (plain_view schema r) c.args.ssas.now path c.loop-ssa.all (drop c.loop-ssa.ssa-index c.args.ssas.now)) e i.all)
          (left_is c.args.ssas.now c.loop-ssa.ssa-index c.ssa-item.result c.loop-ssa-test.true c.ssa-item.is)
          (told_at a.forest rows (λ (r : List Row). IsOn schema (plain_view schema r) path c.ssa-item.result c.in_ok-on.on) e
          (told_after a (g.W.Walk.seen c.loop-ssa.walk) (λ (r : List Row). IsOn schema (plain_view schema r) path c.ssa-item.result c.in_ok-on.on) i.looked.forest c.in_ok-on.ensures.on))
          (λ k. let t : c.is_against.result ≡ true = c.is_against.ensures.1 k in let no : ⊥ = cc (t, c.if-is_against.false) in no)
          c.is_still-all.ensures);
    }

-- without L no SSA looks

pub returns-then-is_against-clause-few : goal.returns-then-is_against-clause-few
returns-then-is_against-clause-few g c = λ h.
    omega (arith, c.loop-ssa.invariant.few h, c.holds_on.ensures.few (none_last c.args.ssas.now c.loop-ssa.ssa-index c.ssa-item.result h c.loop-ssa-test.true c.ssa-item.is))

pub returns-in_err-on-clause-few : goal.returns-in_err-on-clause-few
returns-in_err-on-clause-few g c = λ h.
    omega (arith, c.loop-ssa.invariant.few h, c.holds_on.ensures.few (none_last c.args.ssas.now c.loop-ssa.ssa-index c.ssa-item.result h c.loop-ssa-test.true c.ssa-item.is))

-- a type that doesn't lead to the last SSA's is closed

pub returns-then-not-may_lead-clause-verdict : goal.returns-then-not-may_lead-clause-verdict
returns-then-not-may_lead-clause-verdict g c =
    let a = g.W.Walk.seen c.args.walk.now in
    let schema = c.args.schema.now in
    where_told a.forest (λ (rows : List Row). IsVerdict schema (plain_view schema rows) c.args.ssas.now (c.args.above.now ++ c.args.spot.now ∷ []) c.args.spot.now Closed)
    (λ rows e. closed_by_type schema (c.schemas_are_kept.ensures schema) (plain_view schema rows) c.args.ssas.now c.args.above.now c.args.spot.now (sym c.may_lead.ensures ∙ c.if-not-may_lead.true))

-- at an element of the last SSA's type nothing is left open

pub returns-then-is_last-clause-verdict : goal.returns-then-is_last-clause-verdict
returns-then-is_last-clause-verdict g c =
    let a = g.W.Walk.seen c.args.walk.now in
    let schema = c.args.schema.now in
    let ssas = c.args.ssas.now in
    let path = c.args.above.now ++ c.args.spot.now ∷ [] in
    let i = c.loop-ssa.invariant in
    let none : drop c.loop-ssa.ssa-index ssas ≡ [] = drop_all c.loop-ssa.ssa-index ssas (omega (arith, c.loop-ssa-test.false)) in
    where_told a.forest (λ (rows : List Row). IsVerdict schema (plain_view schema rows) ssas path c.args.spot.now c.at_last.result)
    (λ rows e. judged_at_last schema (c.schemas_are_kept.ensures schema) (plain_view schema rows) ssas c.args.above.now c.args.spot.now c.loop-ssa.all c.at_last.result
    (subst (AllSoFar schema (plain_view schema rows) ssas path c.loop-ssa.all) none
    (told_at a.forest rows (λ (r : List Row). AllSoFar schema (plain_view schema r) ssas path c.loop-ssa.all (drop c.loop-ssa.ssa-index ssas)) e i.all))
    (sym c.is_last.ensures ∙ c.if-is_last.true) c.at_last.ensures)
