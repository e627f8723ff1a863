use Rattle.position_state.proofs.Places.{none_above_one}
use Rattle.position_state.proofs.row_places.through_above.Goals as goal

pub returns-then-level-le1-clause-through : goal.returns-then-level-le1-clause-through
returns-then-level-le1-clause-through c = none_above_one c.args.schema.now.types c.args.rows.now c.args.level c.if-level-le1.true c.requires.levels
