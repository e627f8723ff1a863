use Rattle.std.proofs.Common.{◌≡◌, List, Option, Some, sym, ap, subst, ◌∙◌}
use Rattle.std.specs.Option.{option_copied}
use Rattle.hal_schema.specs.declared.row.Row.{Row}
use Rattle.hal_schema.specs.declared.schema.Schema.{Schema}
use Rattle.position_state.specs.Lawful.{Stands}
use Rattle.call_runs.specs.declared.state.OpenSession.{OpenSession}
use Rattle.call_runs.specs.Sessions.{is_named}
use Rattle.call_changes.specs.Answer.{is_plain, is_standing}
use Rattle.call_changes.proofs.Sessions.{found_holds, plain_index, stands}
use Rattle.call_changes.proofs.answer.answer_call.Goals as goal

pub decide-requires-clause-plain : goal.decide-requires-clause-plain
decide-requires-clause-plain g c =
    plain_index c.in-Some.own.now (found_holds is_plain (is_named c.args.script c.args.call.now.session) c.args.sessions.now c.in-Some.own.now c.requires.plain
    (sym c.session_of.ensures ∙ ap (λ o. option_copied o) c.in-Some.is))

pub decide-requires-clause-stands : goal.decide-requires-clause-stands
decide-requires-clause-stands g c = λ rows e.
    let a = g.W.Walk.seen c.args.walk.now in
    subst (λ (s : Schema). Stands s rows c.in-Some.own.now.session) c.requires.schema
    (stands a.schema rows c.in-Some.own.now (found_holds (is_standing a.schema rows) (is_named c.args.script c.args.call.now.session) c.args.sessions.now c.in-Some.own.now (c.requires.stand rows e)
    (sym c.session_of.ensures ∙ ap (λ o. option_copied o) c.in-Some.is)))
