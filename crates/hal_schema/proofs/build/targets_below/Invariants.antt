use Rattle.std.proofs.Common.{◌≡◌, ◌+◌, drop, nat_lt}
use Rattle.std.specs.List.{prefix_len}
use Rattle.hal_schema.proofs.build.targets_below.Given as goal

abbrev pub invariant-loop-place : goal.invariant-loop-place
invariant-loop-place l = prefix_len (λ i. nat_lt i.target l.target) l.indexes ≡ l.place + prefix_len (λ i. nat_lt i.target l.target) (drop l.place l.indexes)
