use Rattle.free_space.proofs.Maxima.{Doubled}
use Rattle.free_space.proofs.spaces.doubled.Given as goal

abbrev pub invariant-loop-n : goal.invariant-loop-n
invariant-loop-n l = Doubled l.half l.n l.nodes l.new.items
