use Rattle.std.proofs.Common.{◌≡◌, List, true, sym, ap, subst, ◌∙◌}
use Rattle.call_runs.specs.declared.state.OpenSession.{OpenSession}
use Rattle.call_runs.specs.Sessions.{opened}
use Rattle.call_changes.specs.Answer.{all_stand}
use Rattle.hal_desk.proofs.Standing.{opened_stand}
use Rattle.hal_desk.proofs.call_list.CallList.open_session.Goals as goal

pub invariant_of-self : goal.invariant_of-self
invariant_of-self c =
    let list = c.args.self.now in
    let schema = list.schema.now in
    let rows = list.walk.rows in
    let is : c.open_session.new.sessions ≡ opened schema list.sessions c.args.script c.args.request.now =
    c.in_ok-reply.ensures.opened ∙ ap (λ (l : List OpenSession). opened schema l c.args.script c.args.request.now) (c.in_ok-sessions.ensures ∙ c.as_slice.ensures) in
    record {
      same = list.same;
      no_index = list.no_index;
      stand = subst (λ (l : List OpenSession). all_stand schema rows l ≡ true) (sym is) (opened_stand schema rows list.sessions c.args.script c.args.request.now list.no_index list.stand);
    }
