use Rattle.volume_rules.proofs.SideExamplesKept.{sides_are_kept}
use Rattle.volume_rules.proofs.examples.example_sides_are_kept.Goals as goal

pub returns : goal.returns
returns c = sides_are_kept
