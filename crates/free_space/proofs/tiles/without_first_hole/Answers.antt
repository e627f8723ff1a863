use Rattle.free_space.proofs.Clearings.{begins_with_hole}
use Rattle.free_space.proofs.tiles.without_first_hole.Goals as goal

pub returns-in-Some-Hole-default : goal.returns-in-Some-Hole-default
returns-in-Some-Hole-default c = let e = c.in-Some-Hole-default.ensures in begins_with_hole _ _ _ _ _ e.cases.0 c.in-Some-Hole-default.field-0-0-is
