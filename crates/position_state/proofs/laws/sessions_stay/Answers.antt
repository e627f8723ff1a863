use Rattle.position_state.proofs.KeepLaws.{sessions_stay}
use Rattle.position_state.proofs.laws.sessions_stay.Goals as goal

pub returns : goal.returns
returns c = sessions_stay
