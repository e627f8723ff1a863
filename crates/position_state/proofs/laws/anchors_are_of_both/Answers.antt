use Rattle.position_state.proofs.PlaceLaws.{anchors_are_of_both}
use Rattle.position_state.proofs.laws.anchors_are_of_both.Goals as goal

pub returns : goal.returns
returns c = anchors_are_of_both
