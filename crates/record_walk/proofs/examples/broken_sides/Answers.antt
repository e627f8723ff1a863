use Rattle.record_walk.proofs.ExampleSides.{break_a_part}
use Rattle.record_walk.proofs.examples.broken_sides.Goals as goal

pub returns : goal.returns
returns c = break_a_part
