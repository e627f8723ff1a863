use Rattle.std.proofs.Common.{◌≡◌, ◌+◌, ◌*◌, ℕ, List, length, min, slice_get, Some}
use Rattle.data_set_pairs.specs.Reading.{HasFirstStates}
use Rattle.data_set_pairs.proofs.states.take_block.Given as goal

abbrev pub invariant-loop-row : goal.invariant-loop-row
invariant-loop-row l = record {
  many : length l.fn.states.items ≡ min (32 * l.number) (length l.schema.parts) → length l.states.items ≡ min (32 * l.number + l.row) (length l.schema.parts);
  taken : (blocks : List (List ℕ)) → slice_get blocks l.number ≡ Some l.block → HasFirstStates l.schema blocks (32 * l.number) l.fn.states.items → HasFirstStates l.schema blocks (32 * l.number + l.row) l.states.items;
}
