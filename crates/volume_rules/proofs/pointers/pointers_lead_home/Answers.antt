use Rattle.volume_rules.proofs.Leading.{pointers_lead_home}
use Rattle.volume_rules.proofs.pointers.pointers_lead_home.Goals as goal

pub returns : goal.returns
returns c = pointers_lead_home
