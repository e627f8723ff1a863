use Rattle.std.proofs.Common.{◌≡◌, ◌+◌, drop}
use Rattle.std.specs.List.{prefix_len}
use Rattle.std.specs.Ordering.{is_lt}
use Rattle.hal_schema.specs.Keys.{key_cmp}
use Rattle.hal_schema.proofs.build.highs_below.Given as goal

abbrev pub invariant-loop-place : goal.invariant-loop-place
invariant-loop-place l = prefix_len (λ p. is_lt (key_cmp p.high l.high)) l.parts ≡ l.place + prefix_len (λ p. is_lt (key_cmp p.high l.high)) (drop l.place l.parts)
