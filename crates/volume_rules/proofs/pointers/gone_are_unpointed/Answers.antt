use Rattle.volume_rules.proofs.Hanging.{gone_are_unpointed}
use Rattle.volume_rules.proofs.pointers.gone_are_unpointed.Goals as goal

pub returns : goal.returns
returns c = gone_are_unpointed c.schemas_are_kept.ensures c.entries_are_of_sources.ensures
