use Rattle.std.proofs.Common.{refl}
use Rattle.forest_laws.proofs.joining.joining_is_an_example.Goals as goal

pub returns : goal.returns
returns c = record { order = record { each = refl; apart = refl }; turned = refl; twice = refl; comes = record { long = refl; parent = refl; behind_front = refl; before_back = refl } }
