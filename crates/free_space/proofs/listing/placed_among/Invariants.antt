use Rattle.std.proofs.Common.{◌≡◌, take}
use Rattle.free_space.specs.Listing.{placed_among}
use Rattle.free_space.proofs.listing.placed_among.Given as goal

abbrev pub invariant-loop-tile : goal.invariant-loop-tile
invariant-loop-tile l = l.list ≡ placed_among l.set l.page (take l.tile-index l.tiles)
