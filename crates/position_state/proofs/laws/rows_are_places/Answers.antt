use Rattle.position_state.proofs.PlaceLaws.{rows_are_places}
use Rattle.position_state.proofs.laws.rows_are_places.Goals as goal

pub returns : goal.returns
returns c = rows_are_places
