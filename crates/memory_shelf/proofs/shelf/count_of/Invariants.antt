use Rattle.std.proofs.Common.{◌≡◌, ◌+◌, ◌≤◌, length, drop}
use Rattle.memory_shelf.specs.Shelved.{places_of}
use Rattle.memory_shelf.proofs.shelf.count_of.Given as goal

abbrev pub invariant-loop-owner : goal.invariant-loop-owner
invariant-loop-owner l = record {
  within : l.count ≤ l.owner-index;
  count : l.count + length (places_of l.set l.owner-index (drop l.owner-index l.owners)) ≡ length (places_of l.set 0 l.owners);
}
