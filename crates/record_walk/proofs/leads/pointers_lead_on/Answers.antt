use Rattle.record_walk.proofs.leads.pointers_lead_on.Goals as goal
use Rattle.record_walk.proofs.LeadsOn.{pointers_lead_on}

pub returns : goal.returns
returns c = pointers_lead_on c.schemas_are_kept.ensures
