use Rattle.std.proofs.Common.{◌≡◌, ◌<◌, ◌≤◌, ◌==◌, length}
use Rattle.std.specs.List.{list_any}
use Rattle.hal_schema.specs.SegType.{ancestry, parent_code}
use Rattle.hal_schema.proofs.rules.indexes.is_at_or_below.Given as goal

abbrev pub invariant-loop-at : goal.invariant-loop-at
invariant-loop-at l = (0 < l.at) × (l.at ≤ length l.types) × (list_any (λ code. code == l.target) (ancestry (parent_code l.types) l.at) ≡ list_any (λ code. code == l.target) (ancestry (parent_code l.types) l.source))

abbrev pub decreases-loop-at : goal.decreases-loop-at
decreases-loop-at l = l.at
