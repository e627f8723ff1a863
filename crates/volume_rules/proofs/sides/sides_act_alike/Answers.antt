use Rattle.volume_rules.proofs.SideForests.{sides_act_alike}
use Rattle.volume_rules.proofs.sides.sides_act_alike.Goals as goal

pub returns : goal.returns
returns c = sides_act_alike c.sides_are_a_forest.ensures c.changes_stay_within.ensures c.insertions_stay_within.ensures
