use Rattle.std.proofs.Common.{◌≡◌, drop, slice_get}
use Rattle.memory_shelf.specs.Shelved.{places_of}
use Rattle.memory_shelf.proofs.shelf.place_of.Given as goal

abbrev pub invariant-loop-place : goal.invariant-loop-place
invariant-loop-place l = slice_get (places_of l.set l.place (drop l.place l.owners)) l.left ≡ slice_get (places_of l.set 0 l.owners) l.page
