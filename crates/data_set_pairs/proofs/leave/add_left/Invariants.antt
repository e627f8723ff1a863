use Rattle.std.proofs.Common.{◌≡◌, ◌++◌, map, take}
use Rattle.std.specs.Prelude.{filter}
use Rattle.volume_image.specs.Header.{is_left}
use Rattle.data_set_pairs.proofs.leave.add_left.Given as goal

abbrev pub invariant-loop-place : goal.invariant-loop-place
invariant-loop-place l = l.free.items ≡ l.fn.free.items ++ map (λ p. p.block) (filter (λ p. is_left l.states p.set) (take l.place-index l.pages))
