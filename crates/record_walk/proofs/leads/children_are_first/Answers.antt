use Rattle.record_walk.proofs.LeadsExactly.{children_are_first}
use Rattle.record_walk.proofs.leads.children_are_first.Goals as goal

pub returns : goal.returns
returns c = children_are_first c.schemas_are_kept.ensures
