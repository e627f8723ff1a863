use Rattle.std.proofs.Common.{◌≡◌, ℕ, ◌≤◌, slice_get, Some}
use Rattle.segment_blocks.specs.declared.space.Space.{Space}
use Rattle.free_space.specs.Placing.{IsLeft}
use Rattle.free_space.proofs.append.last_open.Given as goal

abbrev pub invariant-loop-page : goal.invariant-loop-page
invariant-loop-page l = (k : ℕ) (space : Space) → l.page ≤ k → slice_get l.spaces k ≡ Some space → IsLeft l.fbff k space
