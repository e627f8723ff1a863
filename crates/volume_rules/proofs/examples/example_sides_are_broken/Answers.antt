use Rattle.volume_rules.proofs.SideExamplesKept.{sides_are_broken}
use Rattle.volume_rules.proofs.examples.example_sides_are_broken.Goals as goal

pub returns : goal.returns
returns c = sides_are_broken
