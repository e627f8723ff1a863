use Rattle.std.proofs.Common.{◌≡◌, map, take}
use Rattle.record_tree.proofs.sides.letters_of.Given as goal

abbrev pub invariant-loop-t : goal.invariant-loop-t
invariant-loop-t l = l.letters ≡ map (λ t. t.letter) (take l.t-index l.t-items)
