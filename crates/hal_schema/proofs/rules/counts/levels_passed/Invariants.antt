use Rattle.std.proofs.Common.{◌≡◌, ◌++◌, nat_lt, take}
use Rattle.std.specs.Prelude.{flat_map}
use Rattle.std.specs.List.{enumerate_from}
use Rattle.hal_schema.specs.Places.{statement, when}
use Rattle.hal_schema.specs.SegType.{level_of}
use Rattle.hal_schema.specs.Raw.{types_of}
use Rattle.hal_schema.proofs.rules.counts.levels_passed.Given as goal

abbrev pub invariant-loop-i : goal.invariant-loop-i
invariant-loop-i l = l.places ≡ l.initial.places ++ flat_map (λ t. when (nat_lt 15 (level_of (types_of l.types) t.0)) (statement t.1.line)) (enumerate_from 1 (take l.i l.types))
