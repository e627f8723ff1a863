use Rattle.std.proofs.Common.{◌≡◌, take}
use Rattle.record_tree.specs.Sides.{shapes_of}
use Rattle.record_tree.proofs.sides.shapes_of.Given as goal

abbrev pub invariant-loop-place : goal.invariant-loop-place
invariant-loop-place l = l.shapes ≡ take l.place (shapes_of l.schema)
