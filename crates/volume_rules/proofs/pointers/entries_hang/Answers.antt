use Rattle.volume_rules.proofs.Hanging.{entries_hang}
use Rattle.volume_rules.proofs.pointers.entries_hang.Goals as goal

pub returns : goal.returns
returns c = entries_hang c.schemas_are_kept.ensures c.entries_are_of_sources.ensures
