use Rattle.std.proofs.Common.{List, Some, [], ◌∷◌, ◌++◌, sym, subst, ◌∙◌}
use Rattle.std.specs.Prelude.{All, nat_lt}
use Rattle.std.proofs.lemmas.List.Elements.{All-filter, All-push}
use Rattle.hal_schema.specs.declared.row.Row.{Row}
use Rattle.position_state.specs.declared.spot.Spot.{Spot}
use Rattle.position_state.specs.Looks.{past, first_behind}
use Rattle.call_gets.specs.declared.scan.Step.TheVariants.{GoesOn}
use Rattle.call_gets.specs.declared.judged.Verdict.{Verdict}
use Rattle.call_gets.specs.Passed.{IsCloser}
use Rattle.call_gets.specs.Scan.{IsFound, IsNearer, IsVerdict, IsStep, met_from, plain_view}
use Rattle.call_gets.proofs.Looking.{where_told, told_at, shows_for, stands_at, differ_told}
use Rattle.call_gets.proofs.Stepping.{place_of_found}
use Rattle.call_gets.proofs.Moving.{nearer_closed, nearer_open, step_open, step_closed}
use Rattle.call_gets.proofs.Passing.{closer_closed, closer_open}
use Rattle.call_gets.proofs.scan.move_on.Goals as goal

pub judge-requires-clause-shown : goal.judge-requires-clause-shown
judge-requires-clause-shown g c = λ rows e.
    let view = plain_view c.args.schema.now rows in
    let f = c.requires.shown rows e in
    record {
      along = subst (λ (ys : List Spot). All (IsFound view) (ys ++ c.args.spot ∷ [])) (sym (c.deref.ensures.value ∙ c.leave.ensures))
          (All-push (IsFound view) _ c.args.spot (All-filter (λ (above : Spot). nat_lt above.level c.args.spot.level) (IsFound view) c.args.path.now.items f.along) f.ahead);
      ahead = tt;
    }

pub past-requires-clause-there : goal.past-requires-clause-there
past-requires-clause-there g c =
    let a = g.W.Walk.seen c.args.walk.now in
    let b = g.W.Walk.seen c.judge.new.walk in
    stands_at a b c.args.schema.now c.args.spot.at c.judge.ensures.looked.schema c.judge.ensures.looked.forest c.requires.schema
    (λ rows e. place_of_found (plain_view c.args.schema.now rows) c.args.spot (differ_told c.places_differ.ensures a c.args.schema.now rows (g.met.W.Walk.keeps_forest c.args.walk.now) c.requires.schema e) (c.requires.shown rows e).ahead)

pub returns-in_ok-past-in-Closed-clause-step : goal.returns-in_ok-past-in-Closed-clause-step
returns-in_ok-past-in-Closed-clause-step g c =
    let a = g.W.Walk.seen c.args.walk.now in
    let b = g.W.Walk.seen c.judge.new.walk in
    let schema = c.args.schema.now in
    let old = c.args.path.now.items in
    let above = c.leave.new.path.items in
    where_told a.forest (λ (rows : List Row). IsStep schema (plain_view schema rows) c.args.ssas.now c.args.top (met_from schema (plain_view schema rows) c.args.ssas.now c.args.top old (Some c.args.spot)) above (GoesOn c.in_ok-past-in-Closed.field-0))
    (λ rows e. step_closed schema (plain_view schema rows) c.args.ssas.now c.args.top old above c.args.spot c.in_ok-past-in-Closed.field-0
    (differ_told c.places_differ.ensures a schema rows (g.met.W.Walk.keeps_forest c.args.walk.now) c.requires.schema e) c.requires.inside c.leave.ensures (c.requires.shown rows e) (c.requires.down rows e)
    (subst (λ (v : Verdict). IsVerdict schema (plain_view schema rows) c.args.ssas.now (above ++ c.args.spot ∷ []) c.args.spot v) c.in-Closed.is
    (subst (λ (ys : List Spot). IsVerdict schema (plain_view schema rows) c.args.ssas.now (ys ++ c.args.spot ∷ []) c.args.spot c.in_ok-judge.field-0) c.deref.ensures.value
    (told_at a.forest rows (λ (r : List Row). IsVerdict schema (plain_view schema r) c.args.ssas.now (c.deref.result.now ++ c.args.spot ∷ []) c.args.spot c.in_ok-judge.field-0) e c.in_ok-judge.ensures.verdict)))
    (shows_for a b schema rows (past c.args.spot) c.in_ok-past-in-Closed.field-0 c.judge.ensures.looked.schema c.judge.ensures.looked.forest c.requires.schema e c.in_ok-past-in-Closed.ensures.shows))

pub returns-in_ok-join-in-Open-clause-step : goal.returns-in_ok-join-in-Open-clause-step
returns-in_ok-join-in-Open-clause-step g c =
    let a = g.W.Walk.seen c.args.walk.now in
    let b = g.W.Walk.seen c.judge.new.walk in
    let schema = c.args.schema.now in
    let old = c.args.path.now.items in
    let above = c.leave.new.path.items in
    where_told a.forest (λ (rows : List Row). IsStep schema (plain_view schema rows) c.args.ssas.now c.args.top (met_from schema (plain_view schema rows) c.args.ssas.now c.args.top old (Some c.args.spot)) c.join.new.path.items (GoesOn c.in_ok-next-in-Open.next))
    (λ rows e. step_open schema (plain_view schema rows) c.args.ssas.now c.args.top old above c.join.new.path.items c.args.spot c.in_ok-next-in-Open.next
    (differ_told c.places_differ.ensures a schema rows (g.met.W.Walk.keeps_forest c.args.walk.now) c.requires.schema e) c.requires.inside c.leave.ensures (c.requires.shown rows e) (c.requires.down rows e)
    (subst (λ (v : Verdict). IsVerdict schema (plain_view schema rows) c.args.ssas.now (above ++ c.args.spot ∷ []) c.args.spot v) c.in-Open.is
    (subst (λ (ys : List Spot). IsVerdict schema (plain_view schema rows) c.args.ssas.now (ys ++ c.args.spot ∷ []) c.args.spot c.in_ok-judge.field-0) c.deref.ensures.value
    (told_at a.forest rows (λ (r : List Row). IsVerdict schema (plain_view schema r) c.args.ssas.now (c.deref.result.now ++ c.args.spot ∷ []) c.args.spot c.in_ok-judge.field-0) e c.in_ok-judge.ensures.verdict)))
    (shows_for a b schema rows (first_behind c.args.spot.at) c.in_ok-next-in-Open.next c.judge.ensures.looked.schema c.judge.ensures.looked.forest c.requires.schema e c.in_ok-next-in-Open.ensures.shows)
    c.in_ok-join-in-Open.ensures)

-- a step that goes on is nearer to the end

pub returns-in_ok-past-in-Closed-clause-nearer : goal.returns-in_ok-past-in-Closed-clause-nearer
returns-in_ok-past-in-Closed-clause-nearer g c =
    let a = g.W.Walk.seen c.args.walk.now in
    let b = g.W.Walk.seen c.judge.new.walk in
    let schema = c.args.schema.now in
    where_told a.forest (λ (rows : List Row). IsNearer c.args.top (plain_view schema rows) c.args.spot (GoesOn c.in_ok-past-in-Closed.field-0))
    (λ rows e. nearer_closed (plain_view schema rows) c.args.top c.args.spot c.in_ok-past-in-Closed.field-0
    (differ_told c.places_differ.ensures a schema rows (g.met.W.Walk.keeps_forest c.args.walk.now) c.requires.schema e) c.requires.inside (c.requires.shown rows e).ahead
    (shows_for a b schema rows (past c.args.spot) c.in_ok-past-in-Closed.field-0 c.judge.ensures.looked.schema c.judge.ensures.looked.forest c.requires.schema e c.in_ok-past-in-Closed.ensures.shows))

pub returns-in_ok-join-in-Open-clause-nearer : goal.returns-in_ok-join-in-Open-clause-nearer
returns-in_ok-join-in-Open-clause-nearer g c =
    let a = g.W.Walk.seen c.args.walk.now in
    let b = g.W.Walk.seen c.judge.new.walk in
    let schema = c.args.schema.now in
    where_told a.forest (λ (rows : List Row). IsNearer c.args.top (plain_view schema rows) c.args.spot (GoesOn c.in_ok-next-in-Open.next))
    (λ rows e. nearer_open (plain_view schema rows) c.args.top c.args.spot c.in_ok-next-in-Open.next
    (differ_told c.places_differ.ensures a schema rows (g.met.W.Walk.keeps_forest c.args.walk.now) c.requires.schema e) c.requires.inside (c.requires.shown rows e).ahead
    (shows_for a b schema rows (first_behind c.args.spot.at) c.in_ok-next-in-Open.next c.judge.ensures.looked.schema c.judge.ensures.looked.forest c.requires.schema e c.in_ok-next-in-Open.ensures.shows))

-- and there is one less to pass

pub returns-in_ok-past-in-Closed-clause-closer : goal.returns-in_ok-past-in-Closed-clause-closer
returns-in_ok-past-in-Closed-clause-closer g c =
    let a = g.W.Walk.seen c.args.walk.now in
    let b = g.W.Walk.seen c.judge.new.walk in
    let schema = c.args.schema.now in
    let old = c.args.path.now.items in
    let above = c.leave.new.path.items in
    where_told a.forest (λ (rows : List Row). IsCloser schema (plain_view schema rows) c.args.ssas.now old c.args.spot above (GoesOn c.in_ok-past-in-Closed.field-0))
    (λ rows e. closer_closed schema (c.schemas_are_kept.ensures schema) (plain_view schema rows) c.args.ssas.now old above c.args.spot c.in_ok-past-in-Closed.field-0
    (differ_told c.places_differ.ensures a schema rows (g.met.W.Walk.keeps_forest c.args.walk.now) c.requires.schema e) c.leave.ensures (c.requires.shown rows e) (c.requires.down rows e)
    (subst (λ (v : Verdict). IsVerdict schema (plain_view schema rows) c.args.ssas.now (above ++ c.args.spot ∷ []) c.args.spot v) c.in-Closed.is
    (subst (λ (ys : List Spot). IsVerdict schema (plain_view schema rows) c.args.ssas.now (ys ++ c.args.spot ∷ []) c.args.spot c.in_ok-judge.field-0) c.deref.ensures.value
    (told_at a.forest rows (λ (r : List Row). IsVerdict schema (plain_view schema r) c.args.ssas.now (c.deref.result.now ++ c.args.spot ∷ []) c.args.spot c.in_ok-judge.field-0) e c.in_ok-judge.ensures.verdict)))
    (shows_for a b schema rows (past c.args.spot) c.in_ok-past-in-Closed.field-0 c.judge.ensures.looked.schema c.judge.ensures.looked.forest c.requires.schema e c.in_ok-past-in-Closed.ensures.shows))

pub returns-in_ok-join-in-Open-clause-closer : goal.returns-in_ok-join-in-Open-clause-closer
returns-in_ok-join-in-Open-clause-closer g c =
    let a = g.W.Walk.seen c.args.walk.now in
    let b = g.W.Walk.seen c.judge.new.walk in
    let schema = c.args.schema.now in
    let old = c.args.path.now.items in
    let above = c.leave.new.path.items in
    where_told a.forest (λ (rows : List Row). IsCloser schema (plain_view schema rows) c.args.ssas.now old c.args.spot c.join.new.path.items (GoesOn c.in_ok-next-in-Open.next))
    (λ rows e. closer_open schema (c.schemas_are_kept.ensures schema) (plain_view schema rows) c.args.ssas.now old above c.join.new.path.items c.args.spot c.in_ok-next-in-Open.next
    (differ_told c.places_differ.ensures a schema rows (g.met.W.Walk.keeps_forest c.args.walk.now) c.requires.schema e) c.leave.ensures (c.requires.shown rows e) (c.requires.down rows e)
    (c.in_ok-judge.ensures.leads c.in-Open.is)
    (subst (λ (v : Verdict). IsVerdict schema (plain_view schema rows) c.args.ssas.now (above ++ c.args.spot ∷ []) c.args.spot v) c.in-Open.is
    (subst (λ (ys : List Spot). IsVerdict schema (plain_view schema rows) c.args.ssas.now (ys ++ c.args.spot ∷ []) c.args.spot c.in_ok-judge.field-0) c.deref.ensures.value
    (told_at a.forest rows (λ (r : List Row). IsVerdict schema (plain_view schema r) c.args.ssas.now (c.deref.result.now ++ c.args.spot ∷ []) c.args.spot c.in_ok-judge.field-0) e c.in_ok-judge.ensures.verdict)))
    (shows_for a b schema rows (first_behind c.args.spot.at) c.in_ok-next-in-Open.next c.judge.ensures.looked.schema c.judge.ensures.looked.forest c.requires.schema e c.in_ok-next-in-Open.ensures.shows)
    c.in_ok-join-in-Open.ensures)
