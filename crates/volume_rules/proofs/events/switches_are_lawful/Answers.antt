use Rattle.volume_rules.proofs.Switch.{switches_are_lawful}
use Rattle.volume_rules.proofs.events.switches_are_lawful.Goals as goal

pub returns : goal.returns
returns c = switches_are_lawful
