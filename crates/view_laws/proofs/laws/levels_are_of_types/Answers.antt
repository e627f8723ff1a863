use Rattle.view_laws.proofs.Places.{levels_are_of_types}
use Rattle.view_laws.proofs.laws.levels_are_of_types.Goals as goal

pub returns : goal.returns
returns c = levels_are_of_types
