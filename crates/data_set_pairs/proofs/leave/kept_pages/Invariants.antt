use Rattle.std.proofs.Common.{◌≡◌, not, take}
use Rattle.std.specs.Prelude.{filter}
use Rattle.volume_image.specs.Header.{is_left}
use Rattle.data_set_pairs.proofs.leave.kept_pages.Given as goal

abbrev pub invariant-loop-place : goal.invariant-loop-place
invariant-loop-place l = l.kept.items ≡ filter (λ p. not (is_left l.states p.set)) (take l.place-index l.pages)
