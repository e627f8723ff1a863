use Rattle.volume_rules.proofs.Calls.{insertions_are_lawful}
use Rattle.volume_rules.proofs.events.insertions_are_lawful.Goals as goal

pub returns : goal.returns
returns c = insertions_are_lawful
