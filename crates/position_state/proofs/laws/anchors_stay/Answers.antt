use Rattle.position_state.proofs.KeepLaws.{anchors_stay}
use Rattle.position_state.proofs.laws.anchors_stay.Goals as goal

pub returns : goal.returns
returns c = anchors_stay
