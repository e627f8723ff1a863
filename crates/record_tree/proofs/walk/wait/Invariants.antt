use Rattle.std.proofs.Common.{◌≡◌, ◌++◌, ◌-◌, length, drop}
use Rattle.record_tree.specs.Walking.{waits}
use Rattle.record_tree.proofs.walk.wait.Given as goal

abbrev pub invariant-loop-done : goal.invariant-loop-done
invariant-loop-done l = l.waiting.items ≡ l.initial.waiting.items ++ waits l.parent (drop (length l.addresses - l.done) l.addresses)
