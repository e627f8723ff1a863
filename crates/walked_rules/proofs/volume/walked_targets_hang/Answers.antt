use Rattle.walked_rules.proofs.TargetsOfEntries.{walked_targets_hang}
use Rattle.walked_rules.proofs.volume.walked_targets_hang.Goals as goal

pub returns : goal.returns
returns c = walked_targets_hang c.walked_rows_stand.ensures c.walked_entries_hang.ensures
