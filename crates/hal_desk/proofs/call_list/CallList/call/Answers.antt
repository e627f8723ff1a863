use Rattle.std.proofs.Common.{◌≡◌, List, [], sym, ap, subst, ◌∙◌}
use Rattle.hal_schema.specs.declared.row.Row.{Row}
use Rattle.hal_schema.specs.declared.schema.Schema.{Schema}
use Rattle.call_text.specs.Replying.{reply_text}
use Rattle.call_text.specs.declared.reply.Reply.{Reply}
use Rattle.position_state.specs.Keep.{changed}
use Rattle.call_runs.specs.Steps.{CallLeads}
use Rattle.call_changes.specs.declared.answer.Answer.{Answer}
use Rattle.call_changes.specs.Answer.{after_answer}
use Rattle.hal_desk.specs.Lists.{state_of}
use Rattle.hal_desk.specs.Outside.{list_blocks}
use Rattle.hal_desk.proofs.call_list.CallList.call.Goals as goal

pub returns-clause-said : goal.returns-clause-said
returns-clause-said c =
    let list = c.args.self.now in
    c.in_ok-text.ensures
    ∙ ap (λ (r : Reply). reply_text c.args.script c.args.number r)
    (ap (λ (a : Answer). a.reply) c.in_ok-answer.ensures.answered
    ∙ (c.answers_lead.ensures list.schema.now (state_of list) list_blocks c.args.script c.args.call.now c.in_ok-name.name c.in_ok-name.ensures).0)

pub returns-clause-leads : goal.returns-clause-leads
returns-clause-leads c =
    let list = c.args.self.now in
    let schema = list.schema.now in
    let old = state_of list in
    let name = c.in_ok-name.name in
    let a = c.in_ok-answer.answer in
    let then_list = c.answered.new.self in
    let rows : c.change.new.self.rows ≡ changed schema a.change name old.forest =
    c.in_ok-change.ensures.changed
    ∙ ap (λ (s : Schema). changed s a.change name then_list.walk.rows) (then_list.same ∙ c.answered.ensures.schema)
    ∙ ap (λ s. changed schema a.change name s.forest) c.answered.ensures.state in
    let law = (c.answers_lead.ensures schema old list_blocks c.args.script c.args.call.now name c.in_ok-name.ensures).1 in
    let led = subst (λ (x : Answer). CallLeads schema old c.args.script list_blocks c.args.call.now (after_answer schema old x name)) (sym c.in_ok-answer.ensures.answered) law in
    subst (λ (f : List Row). CallLeads schema old c.args.script list_blocks c.args.call.now (record { forest = f; sessions = a.sessions; parts = [] })) (sym rows) led
