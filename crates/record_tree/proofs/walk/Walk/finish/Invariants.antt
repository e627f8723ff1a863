use Rattle.record_tree.proofs.Walking.{WalkWay}
use Rattle.record_tree.proofs.walk.Walk.finish.Given as goal

abbrev pub invariant-loop : goal.invariant-loop
invariant-loop g l = WalkWay l.cells l.initial.self.waiting.items l.initial.self.rows l.self (g.H.Shelf.steady l.initial.shelf l.shelf) (g.H.Shelf.seen l.initial.shelf) (g.H.Shelf.seen l.shelf)
