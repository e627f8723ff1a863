use Rattle.free_space.proofs.Clearings.{ends_in_cell}
use Rattle.free_space.proofs.tiles.without_last_hole.Goals as goal

pub returns-in-Some-Seg-default : goal.returns-in-Some-Seg-default
returns-in-Some-Seg-default c = let e = c.in-Some-Seg-default.ensures in ends_in_cell _ _ _ _ _ e.cases.0 c.in-Some-Seg-default.field-0-0-is
