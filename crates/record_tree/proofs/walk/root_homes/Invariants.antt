use Rattle.record_tree.proofs.RootHomes.{HomesWay}
use Rattle.record_tree.proofs.walk.root_homes.Given as goal

abbrev pub invariant-loop : goal.invariant-loop
invariant-loop g l = HomesWay l.initial.roots l.roots l.key l.homes.items (g.H.Shelf.steady l.initial.shelf l.shelf) (g.H.Shelf.seen l.initial.shelf) (g.H.Shelf.seen l.shelf)
