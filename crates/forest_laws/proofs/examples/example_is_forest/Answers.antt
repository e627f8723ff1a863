use Rattle.forest_laws.proofs.ExampleLaws.{example_is_forest}
use Rattle.forest_laws.proofs.examples.example_is_forest.Goals as goal

pub returns : goal.returns
returns c = example_is_forest
