use Rattle.volume_rules.proofs.ExamplesKept.{are_kept}
use Rattle.volume_rules.proofs.examples.examples_are_kept.Goals as goal

pub returns : goal.returns
returns c = are_kept
