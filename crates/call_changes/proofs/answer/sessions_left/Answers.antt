use Rattle.std.proofs.Common.{◌≡◌, List, Some, sym, ap, subst, ◌∙◌, IsTrue, true, take, map, ◌+◌}
use Rattle.std.specs.Prelude.{slice_index_or}
use Rattle.hal_schema.specs.declared.row.Row.{Row}
use Rattle.hal_schema.specs.declared.schema.Schema.{Schema}
use Rattle.position_state.specs.Keep.{changed}
use Rattle.position_state.specs.declared.session.Session.{Session}
use Rattle.position_state.specs.declared.walk.WalkFault.TheVariants.{Failed}
use Rattle.position_state.specs.Looks.{WalkView}
use Rattle.call_runs.specs.declared.state.OpenSession.{OpenSession}
use Rattle.call_runs.specs.Steps.{session_after}
use Rattle.call_changes.specs.Answer.{is_standing, session_left, sessions_left}
use Rattle.call_changes.proofs.Looking.{ok_not_err, told_at, where_told}
use Rattle.call_changes.proofs.Sessions.{holds_at, mapped_more, only_as, only_then}
use Rattle.call_changes.proofs.answer.sessions_left.Goals as goal

pub session_left-requires-clause-stand : goal.session_left-requires-clause-stand
session_left-requires-clause-stand g c = λ rows e.
    let i = c.loop-one.invariant in
    let a = g.W.Walk.seen c.args.walk.now in
    subst (λ (s : Schema). is_standing s rows c.one-item.result ≡ true) (sym i.looked.schema)
    (subst (λ (one : OpenSession). is_standing a.schema rows one ≡ true) (sym c.one-item.is)
    (holds_at (is_standing a.schema rows) c.args.sessions.now c.loop-one.one-index c.one-item.result c.loop-one-test.true (c.requires.stand rows (sym i.looked.forest ∙ e))))

pub loop-one-preserved : goal.loop-one-preserved
loop-one-preserved g c =
    let a = g.W.Walk.seen c.args.walk.now in
    let b = g.W.Walk.seen c.loop-one.walk in
    let i = c.loop-one.invariant in
    let schema = c.args.schema.now in
    let d = c.args.decision.now in
    record {
      live = c.session_left.ensures.looked.faults.alive (λ is. ok_not_err c.session_left.result c.in_ok-session.session Failed c.in_ok-session.was is);
      looked = only_as (only_then i.looked c.session_left.ensures.looked) (λ is. ok_not_err c.session_left.result c.in_ok-session.session Failed c.in_ok-session.was is) (λ never. absurd never);
      left = where_told a.forest (λ (rows : List Row). c.push.new.self ≡ sessions_left schema rows c.args.script c.args.call.now d c.args.name (take (c.loop-one.one-index + 1) c.args.sessions.now))
          (λ rows e.
          let f : OpenSession → OpenSession = session_after schema rows (changed schema d.change c.args.name rows) d c.args.name c.args.script c.args.call.now in
          let so = told_at a.forest rows (λ (r : List Row). c.loop-one.left ≡ sessions_left schema r c.args.script c.args.call.now d c.args.name (take c.loop-one.one-index c.args.sessions.now)) e i.left in
          let one = told_at b.forest rows (λ (r : List Row). c.in_ok-session.session ≡ session_left schema r c.args.script c.args.call.now d c.args.name c.one-item.result) (i.looked.forest ∙ e) c.in_ok-session.ensures.left in
          let made : c.with.result ≡ f (slice_index_or c.args.sessions.now c.loop-one.one-index c.one-item.result) =
          c.with.ensures ∙ ap (λ (s : Session). record c.one-item.result { session = s }) one ∙ ap f c.one-item.is in
          c.in_ok-push.ensures.ok ∙ mapped_more f c.args.sessions.now c.loop-one.one-index c.one-item.result c.loop-one.left c.with.result c.loop-one-test.true so made);
    }
