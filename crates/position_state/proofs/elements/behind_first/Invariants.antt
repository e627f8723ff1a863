use Rattle.std.proofs.Common.{◌≡◌, drop}
use Rattle.std.specs.Prelude.{◌+◌}
use Rattle.std.specs.List.{position_or_len}
use Rattle.position_state.specs.View.{is_at}
use Rattle.position_state.proofs.elements.behind_first.Given as goal

abbrev pub invariant-loop-place : goal.invariant-loop-place
invariant-loop-place l = position_or_len (is_at l.at) l.view ≡ l.place + position_or_len (is_at l.at) (drop l.place l.view)
