use Rattle.std.proofs.Common.{take, ap, ◌∙◌}
use Rattle.call_changes.proofs.Parenting.{but_last}
use Rattle.call_changes.proofs.parent.all_but_last.Goals as goal

pub returns : goal.returns
returns c = ap (λ n. take n c.args.ssas.now) c.saturating_sub.ensures ∙ but_last c.args.ssas.now
