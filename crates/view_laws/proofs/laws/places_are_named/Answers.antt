use Rattle.view_laws.proofs.Places.{places_are_named}
use Rattle.view_laws.proofs.laws.places_are_named.Goals as goal

pub returns : goal.returns
returns c = places_are_named
