use Rattle.record_walk.proofs.ExampleSides.{sides}
use Rattle.record_walk.proofs.examples.example_sides.Goals as goal

pub returns : goal.returns
returns c = sides
