use Rattle.volume_rules.proofs.Units.{units_are_lawful}
use Rattle.volume_rules.proofs.events.units_are_lawful.Goals as goal

pub returns : goal.returns
returns c = units_are_lawful
