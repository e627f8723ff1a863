use Rattle.volume_rules.proofs.Hanging.{pointers_hang}
use Rattle.volume_rules.proofs.pointers.pointers_hang.Goals as goal

pub returns : goal.returns
returns c = pointers_hang c.schemas_are_kept.ensures c.entries_are_of_sources.ensures
