use Rattle.walked_rules.proofs.ListsOfWalks.{walked_entries_hang}
use Rattle.walked_rules.proofs.volume.walked_entries_hang.Goals as goal

pub returns : goal.returns
returns c = walked_entries_hang c.entries_hang_in_records.ensures
