use Rattle.std.proofs.Common.{◌≡◌, ◌+◌, drop}
use Rattle.std.specs.List.{position_or_len}
use Rattle.position_state.specs.Places.{is_root_of}
use Rattle.position_state.proofs.row_places.place_of_root.Given as goal

abbrev pub invariant-loop-place : goal.invariant-loop-place
invariant-loop-place l = position_or_len (is_root_of l.schema.types l.key) l.rows ≡ l.place + position_or_len (is_root_of l.schema.types l.key) (drop l.place l.rows)
