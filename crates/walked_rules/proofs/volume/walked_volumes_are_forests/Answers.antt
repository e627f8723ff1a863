use Rattle.walked_rules.proofs.SidesOfWalks.{walked_volumes_are_forests}
use Rattle.walked_rules.proofs.volume.walked_volumes_are_forests.Goals as goal

pub returns : goal.returns
returns c = walked_volumes_are_forests c.walked_sides_are_kept.ensures c.sides_are_a_forest.ensures
