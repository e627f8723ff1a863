use Rattle.volume_rules.proofs.Tested.{tests_tell}
use Rattle.volume_rules.proofs.telling.tests_tell.Goals as goal

pub returns : goal.returns
returns c = tests_tell
