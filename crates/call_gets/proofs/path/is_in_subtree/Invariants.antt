use Rattle.std.proofs.Common.{◌≡◌, ◌==◌}
use Rattle.std.specs.List.{list_any}
use Rattle.hal_schema.specs.SegType.{ancestry, ancestry_within, parent_code}
use Rattle.call_gets.proofs.path.is_in_subtree.Given as goal

abbrev pub invariant-loop-left : goal.invariant-loop-left
invariant-loop-left l =
    list_any (λ c. c == l.above) (ancestry (parent_code l.schema.types) l.code) ≡ list_any (λ c. c == l.above) (ancestry_within l.left (parent_code l.schema.types) l.at)

abbrev pub decreases-loop-left : goal.decreases-loop-left
decreases-loop-left l = l.left
