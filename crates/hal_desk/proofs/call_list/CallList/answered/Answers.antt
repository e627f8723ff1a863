use Rattle.std.proofs.Common.{◌≡◌, List, true, sym, subst}
use Rattle.std.specs.List.{list_all}
use Rattle.call_runs.specs.declared.state.OpenSession.{OpenSession}
use Rattle.call_changes.specs.Answer.{is_plain}
use Rattle.hal_desk.proofs.Standing.{all_plain}
use Rattle.hal_desk.proofs.call_list.CallList.answered.Goals as goal

pub answer_call-requires-clause-plain : goal.answer_call-requires-clause-plain
answer_call-requires-clause-plain c =
    let list = c.args.self.now in
    subst (λ (l : List OpenSession). list_all is_plain l ≡ true) (sym c.as_slice.ensures) (all_plain list.schema.now list.walk.rows list.sessions list.stand)
