use Rattle.forest_laws.proofs.EntryLaws.{entries_are_in_key_order}
use Rattle.forest_laws.proofs.entries.entries_are_in_key_order.Goals as goal

pub returns : goal.returns
returns c = entries_are_in_key_order
