use Rattle.record_walk.proofs.KeptRecords.{cuts_keep_records}
use Rattle.record_walk.proofs.records.cuts_keep_records.Goals as goal

pub returns : goal.returns
returns c = cuts_keep_records c.schemas_are_kept.ensures
