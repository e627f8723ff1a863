use Rattle.free_space.proofs.SideSteps.{beside, changed_others, grown_others}
use Rattle.free_space.proofs.laws.others_leave_a_side_open.Goals as goal

pub returns : goal.returns
returns c = record {
  changed = λ side set old new stands apart changed. beside side set old new stands apart (changed_others changed);
  grown = λ side count set old new stands apart grown. beside side set old new stands apart (grown_others grown);
}
