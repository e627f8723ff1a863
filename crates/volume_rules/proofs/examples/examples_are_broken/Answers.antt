use Rattle.volume_rules.proofs.ExamplesBroken.{are_broken}
use Rattle.volume_rules.proofs.examples.examples_are_broken.Goals as goal

pub returns : goal.returns
returns c = are_broken
