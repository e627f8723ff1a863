use Rattle.record_walk.proofs.RecordOf.{entries_hang_in_records}
use Rattle.record_walk.proofs.in_records.entries_hang_in_records.Goals as goal

pub returns : goal.returns
returns c = entries_hang_in_records c.schemas_are_kept.ensures
