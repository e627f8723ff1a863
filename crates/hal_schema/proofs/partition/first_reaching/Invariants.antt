use Rattle.std.proofs.Common.{◌≡◌, ◌+◌, drop}
use Rattle.std.specs.List.{position_or_len}
use Rattle.std.specs.Ordering.{is_le}
use Rattle.hal_schema.specs.Keys.{key_cmp}
use Rattle.hal_schema.proofs.partition.first_reaching.Given as goal

abbrev pub invariant-loop-place : goal.invariant-loop-place
invariant-loop-place l =
    position_or_len (λ part. is_le (key_cmp l.key part.high)) l.parts ≡ l.place + position_or_len (λ part. is_le (key_cmp l.key part.high)) (drop l.place l.parts)
