use Rattle.std.proofs.Common.{◌≡◌, ◌++◌, take, map}
use Rattle.std.specs.Prelude.{flat_map}
use Rattle.hal_schema.specs.Places.{passing, statement}
use Rattle.hal_schema.proofs.rules.counts.fields_passed.Given as goal

abbrev pub invariant-loop-t : goal.invariant-loop-t
invariant-loop-t l = l.places ≡ l.initial.places ++ flat_map (λ t. passing 255 (map (λ f. statement f.line) t.fields)) (take l.t-index l.types)
