use Rattle.std.proofs.Common.{◌≡◌, ◌+◌, drop}
use Rattle.std.specs.List.{position_or_len}
use Rattle.position_state.specs.Places.{is_of_row}
use Rattle.position_state.proofs.row_places.place_of.Given as goal

abbrev pub invariant-loop-place : goal.invariant-loop-place
invariant-loop-place l = position_or_len (is_of_row l.at) l.rows ≡ l.place + position_or_len (is_of_row l.at) (drop l.place l.rows)
