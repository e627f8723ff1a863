use Rattle.std.proofs.Common.{◌≡◌, take, map}
use Rattle.hal_schema.specs.Raw.{seg_type}
use Rattle.hal_schema.proofs.build.build_types.Given as goal

abbrev pub invariant-loop-t : goal.invariant-loop-t
invariant-loop-t l = l.list ≡ map (seg_type l.types) (take l.t-index l.types)
