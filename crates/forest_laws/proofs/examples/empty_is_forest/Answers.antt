use Rattle.forest_laws.proofs.ExampleLaws.{empty_is_forest}
use Rattle.forest_laws.proofs.examples.empty_is_forest.Goals as goal

pub returns : goal.returns
returns c = empty_is_forest
