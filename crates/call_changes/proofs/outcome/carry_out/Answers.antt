use Rattle.std.proofs.Common.{◌≡◌, List, refl, ap, ◌∙◌}
use Rattle.hal_schema.specs.declared.row.Row.{Row}
use Rattle.position_state.specs.Keep.{changed, kept_session}
use Rattle.dli_calls.specs.Changes.{no_name}
use Rattle.call_changes.specs.Outcome.{carried}
use Rattle.call_changes.proofs.Looking.{where_told, left_by}
use Rattle.call_changes.proofs.outcome.carry_out.Goals as goal

pub returns-clause-carried : goal.returns-clause-carried
returns-clause-carried g c =
    let a = g.W.Walk.seen c.args.walk.now in
    let schema = c.args.schema.now in
    let session = c.args.session.now in
    let change = c.args.change in
    where_told a.forest (λ (rows : List Row). c.carried.result ≡ carried change (kept_session schema change rows (changed schema change no_name rows) session))
    (λ rows e. c.carried.ensures ∙ ap (carried change) (left_by a schema rows change change session c.in_ok-left.left c.requires.schema e refl c.in_ok-left.ensures.left))
