use Rattle.std.proofs.Common.{◌≡◌, ◌++◌, take, drop}
use Rattle.keyed_sets.specs.Standing.{with_number}
use Rattle.keyed_sets.proofs.write.number_place.Given as goal

-- the numbers before this one are below the number
abbrev pub invariant-loop-at : goal.invariant-loop-at
invariant-loop-at l = with_number l.n l.numbers ≡ take l.at l.numbers ++ with_number l.n (drop l.at l.numbers)
