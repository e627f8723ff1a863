use Rattle.volume_rules.proofs.Rises.{rising_goes_on}
use Rattle.volume_rules.proofs.rising.rising_goes_on.Goals as goal

pub returns : goal.returns
returns c = rising_goes_on
