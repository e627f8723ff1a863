use Rattle.record_walk.proofs.KeptRecords.{new_segments_keep_records}
use Rattle.record_walk.proofs.records.new_segments_keep_records.Goals as goal

pub returns : goal.returns
returns c = new_segments_keep_records c.schemas_are_kept.ensures
