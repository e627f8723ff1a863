use Rattle.std.proofs.Common.{◌≡◌, ◌++◌, take}
use Rattle.std.specs.Prelude.{flat_map}
use Rattle.std.specs.List.{enumerate_from}
use Rattle.hal_schema.specs.Places.{statement, when}
use Rattle.hal_schema.specs.Rules.{is_unknown_parent}
use Rattle.hal_schema.proofs.rules.parents.unknown_parents.Given as goal

abbrev pub invariant-loop-i : goal.invariant-loop-i
invariant-loop-i l = l.places ≡ l.initial.places ++ flat_map (λ t. when (is_unknown_parent l.types t.0 t.1.parent) (statement t.1.line)) (enumerate_from 1 (take l.i l.types))
