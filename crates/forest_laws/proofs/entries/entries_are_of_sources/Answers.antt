use Rattle.forest_laws.proofs.EntryLaws.{entries_are_of_sources}
use Rattle.forest_laws.proofs.entries.entries_are_of_sources.Goals as goal

pub returns : goal.returns
returns c = entries_are_of_sources c.schemas_are_kept.ensures
