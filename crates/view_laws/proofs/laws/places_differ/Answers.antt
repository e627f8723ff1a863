use Rattle.view_laws.proofs.Places.{places_differ}
use Rattle.view_laws.proofs.laws.places_differ.Goals as goal

pub returns : goal.returns
returns c = places_differ
