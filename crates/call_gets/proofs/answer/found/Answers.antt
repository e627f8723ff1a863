use Rattle.std.proofs.Common.{◌≡◌, List, sym, ap, subst, ◌∙◌}
use Rattle.hal_schema.specs.declared.row.Row.{Row}
use Rattle.hal_schema.specs.declared.schema.Schema.{Schema}
use Rattle.call_text.specs.declared.line.Ssa.{Ssa}
use Rattle.position_state.specs.declared.spot.Change.TheVariants.{Nothing}
use Rattle.dli_calls.specs.declared.decision.Decision.{Decision}
use Rattle.dli_calls.specs.Decided.{found}
use Rattle.dli_calls.specs.Gets.{got_status, shown_content}
use Rattle.call_gets.specs.Scan.{on_its_path}
use Rattle.call_gets.proofs.Looking.{where_told, told_at}
use Rattle.call_gets.proofs.Deciding.{found_is}
use Rattle.call_gets.proofs.answer.found.Goals as goal

pub returns-clause-found : goal.returns-clause-found
returns-clause-found g c =
    let a = g.W.Walk.seen c.args.walk.now in
    let schema = c.args.schema.now in
    let spot = c.args.met.now.spot in
    where_told a.forest (λ (rows : List Row). (let d : Decision = record { reply = c.reply_of.result; change = Nothing; session = c.in_ok-after_get.field-0 } in d ≡ found schema rows c.args.session.now c.args.call.now (on_its_path c.args.met.now)))
    (λ rows e. found_is schema rows c.args.session.now c.args.call.now (on_its_path c.args.met.now) c.in_ok-status.status c.in-Some.seg c.in_ok-copy.field-0 c.in_ok-content.content c.reply_of.result c.in_ok-after_get.field-0
    c.requires.plain
    (subst (λ (s : Schema). c.in_ok-status.status ≡ got_status s rows c.args.call.now c.args.session.now spot) c.requires.schema
    (told_at a.forest rows (λ (r : List Row). c.in_ok-status.status ≡ got_status a.schema r c.args.call.now c.args.session.now spot) e c.in_ok-status.ensures.status))
    (sym c.in-Some.is ∙ c.name_of.ensures)
    c.in_ok-copy.ensures (c.in_ok-content.ensures ∙ ap (λ (ssas : List Ssa). shown_content schema ssas (on_its_path c.args.met.now)) c.as_slice.ensures) c.reply_of.ensures c.in_ok-after_get.ensures)
