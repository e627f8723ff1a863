use Rattle.position_state.proofs.KeepLaws.{anchors_stand}
use Rattle.position_state.proofs.laws.anchors_stand.Goals as goal

pub returns : goal.returns
returns c = anchors_stand
