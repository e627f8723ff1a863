use Rattle.std.proofs.Common.{sym, ◌∙◌}
use Rattle.volume_rules.proofs.telling.holds_one.Goals as goal

pub returns : goal.returns
returns c = λ schema volume rows other states others h k. (sym h.list ∙ k.list, sym h.parts ∙ k.parts)
