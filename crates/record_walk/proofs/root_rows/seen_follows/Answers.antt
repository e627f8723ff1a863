use Rattle.record_walk.proofs.RootRows.{seen_follows}
use Rattle.record_walk.proofs.root_rows.seen_follows.Goals as goal

pub returns : goal.returns
returns c = seen_follows
