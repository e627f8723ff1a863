use Rattle.record_walk.proofs.KeptRecords.{replaced_content_keeps_records}
use Rattle.record_walk.proofs.records.replaced_content_keeps_records.Goals as goal

pub returns : goal.returns
returns c = replaced_content_keeps_records
