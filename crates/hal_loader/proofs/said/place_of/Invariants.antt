use Rattle.std.proofs.Common.{◌≡◌, ◌+◌, drop}
use Rattle.std.specs.List.{position_or_len}
use Rattle.std.specs.Str.{bytes_eq}
use Rattle.hal_loader.proofs.said.place_of.Given as goal

abbrev pub invariant-loop-place : goal.invariant-loop-place
invariant-loop-place l =
    position_or_len (λ t. bytes_eq t.name l.name) l.types ≡ l.place + position_or_len (λ t. bytes_eq t.name l.name) (drop l.place l.types)
