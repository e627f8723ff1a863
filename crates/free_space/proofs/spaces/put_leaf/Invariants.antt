use Rattle.free_space.proofs.Maxima.{Raised}
use Rattle.free_space.proofs.spaces.put_leaf.Given as goal

abbrev pub invariant-loop-node : goal.invariant-loop-node
invariant-loop-node l = Raised l.half l.n l.room l.node l.fn.nodes l.nodes

abbrev pub decreases-loop-node : goal.decreases-loop-node
decreases-loop-node l = l.node
