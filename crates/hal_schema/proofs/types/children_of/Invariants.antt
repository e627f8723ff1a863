use Rattle.std.proofs.Common.{◌≡◌, count_by, take}
use Rattle.hal_schema.specs.SegType.{is_child}
use Rattle.hal_schema.proofs.types.children_of.Given as goal

abbrev pub invariant-loop-t : goal.invariant-loop-t
invariant-loop-t l = l.children ≡ count_by (is_child l.code) (take l.t-index l.types)
