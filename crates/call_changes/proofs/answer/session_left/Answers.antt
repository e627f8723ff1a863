use Rattle.std.proofs.Common.{◌≡◌, List, sym, ap, subst, ◌∙◌, cond}
use Rattle.hal_schema.specs.declared.row.Row.{Row}
use Rattle.hal_schema.specs.declared.schema.Schema.{Schema}
use Rattle.call_runs.specs.Steps.{set_on_new}
use Rattle.position_state.specs.Keep.{changed, kept_session}
use Rattle.position_state.specs.Lawful.{IsLawful}
use Rattle.call_changes.specs.Answer.{session_left}
use Rattle.call_changes.proofs.Looking.{told_at, where_told}
use Rattle.call_changes.proofs.Sessions.{stands}
use Rattle.call_changes.proofs.answer.session_left.Goals as goal

pub returns-then-is_named-clause-left : goal.returns-then-is_named-clause-left
returns-then-is_named-clause-left g c =
    let a = g.W.Walk.seen c.args.walk.now in
    let d = c.args.decision.now in
    where_told a.forest (λ (rows : List Row). c.in_ok-set_on_new.field-0 ≡ session_left c.args.schema.now rows c.args.script c.args.call.now d c.args.name c.args.one.now)
    (λ rows e.
    c.in_ok-set_on_new.ensures ∙ ap (set_on_new d.change c.args.name) c.in_ok-copy.ensures
    ∙ sym (ap (λ b. cond b (set_on_new d.change c.args.name d.session) (kept_session c.args.schema.now d.change rows (changed c.args.schema.now d.change c.args.name rows) c.args.one.now.session)) (sym c.is_named.ensures ∙ c.if-is_named.true)))

pub after_change-requires-clause-of_list : goal.after_change-requires-clause-of_list
after_change-requires-clause-of_list g c = λ rows e.
    let a = g.W.Walk.seen c.args.walk.now in (
      stands a.schema rows c.args.one.now (c.requires.stand rows e),
      subst (λ (s : Schema). IsLawful s rows c.args.decision.now.change) (sym c.requires.schema) (told_at a.forest rows (λ (r : List Row). IsLawful c.args.schema.now r c.args.decision.now.change) e c.requires.lawful),
    )
