use Rattle.record_walk.proofs.RootRows.{rows_come_and_go}
use Rattle.record_walk.proofs.root_rows.rows_come_and_go.Goals as goal

pub returns : goal.returns
returns c = rows_come_and_go
