use Rattle.record_walk.proofs.OnLists.{replaced_content_is_listed}
use Rattle.record_walk.proofs.listed.replaced_content_is_listed.Goals as goal

pub returns : goal.returns
returns c = replaced_content_is_listed c.schemas_are_kept.ensures
