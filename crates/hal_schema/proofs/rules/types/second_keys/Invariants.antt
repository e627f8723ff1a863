use Rattle.std.proofs.Common.{◌≡◌, ◌++◌, drop}
use Rattle.hal_schema.specs.Places.{statement, twice}
use Rattle.hal_schema.specs.Rules.{both_sequence}
use Rattle.hal_schema.proofs.rules.types.second_keys.Given as goal

abbrev pub invariant-loop-i : goal.invariant-loop-i
invariant-loop-i l = l.places ++ twice both_sequence (λ f. statement f.line) (drop l.i l.fields) ≡ l.initial.places ++ twice both_sequence (λ f. statement f.line) l.fields
