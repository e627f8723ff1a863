use Rattle.std.proofs.Common.{◌-◌}
use Rattle.free_space.proofs.Maxima.{Descent}
use Rattle.free_space.proofs.spaces.Spaces.first_page.Given as goal

abbrev pub invariant-loop-node : goal.invariant-loop-node
invariant-loop-node l = Descent l.self.height l.self.nodes.items l.len l.node

abbrev pub decreases-loop-node : goal.decreases-loop-node
decreases-loop-node l = l.half - l.node
