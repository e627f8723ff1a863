use Rattle.volume_rules.proofs.Calls.{replacements_are_lawful}
use Rattle.volume_rules.proofs.events.replacements_are_lawful.Goals as goal

pub returns : goal.returns
returns c = replacements_are_lawful
