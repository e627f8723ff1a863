use Rattle.volume_rules.proofs.Calls.{deletions_are_lawful}
use Rattle.volume_rules.proofs.events.deletions_are_lawful.Goals as goal

pub returns : goal.returns
returns c = deletions_are_lawful
