use Rattle.std.proofs.Common.{◌≡◌, ◌++◌, take, drop}
use Rattle.position_state.specs.View.{all_before}
use Rattle.position_state.proofs.elements.before_first.Given as goal

abbrev pub invariant-loop-place : goal.invariant-loop-place
invariant-loop-place l = all_before l.at l.view ≡ take l.place l.view ++ all_before l.at (drop l.place l.view)
