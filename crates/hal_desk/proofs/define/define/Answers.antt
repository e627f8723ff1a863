use Rattle.std.proofs.Common.{ap, ◌∙◌}
use Rattle.hal_desk.specs.Define.{answer_of, definition_of}
use Rattle.hal_desk.proofs.Commands.{ran_answer}
use Rattle.hal_desk.proofs.define.define.Goals as goal

pub returns-in-Ok-answer_to-clause-ran : goal.returns-in-Ok-answer_to-clause-ran
returns-in-Ok-answer_to-clause-ran g c =
    ran_answer _ _ c.take_all.result c.in-Ok.text c.as_slice-in-Ok-answer_to.result.now c.in-Ok-answer_to.answer c.say_line.result.status c.take_all.ensures c.in-Ok.is
    (c.in-Ok-answer_to.ensures ∙ ap (λ t. answer_of (definition_of t)) c.as_slice.ensures) c.as_slice-in-Ok-answer_to.ensures c.say_line.ensures.says
