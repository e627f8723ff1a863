use Rattle.volume_rules.proofs.Calls.{turns_are_lawful}
use Rattle.volume_rules.proofs.events.turns_are_lawful.Goals as goal

pub returns : goal.returns
returns c = turns_are_lawful
