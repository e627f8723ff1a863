use Rattle.volume_rules.proofs.RowEvents.{events_move_rows}
use Rattle.volume_rules.proofs.sides.events_move_rows.Goals as goal

pub returns : goal.returns
returns c = events_move_rows
