use Rattle.volume_rules.proofs.SideForests.{sides_are_a_forest}
use Rattle.volume_rules.proofs.sides.sides_are_a_forest.Goals as goal

pub returns : goal.returns
returns c = sides_are_a_forest c.orders_join.ensures c.sequences_join.ensures c.forests_are_sequences.ensures
