use Rattle.std.proofs.Common.{◌≡◌, ◌+◌, drop}
use Rattle.std.specs.List.{prefix_len}
use Rattle.hal_schema.specs.Places.{is_before}
use Rattle.hal_schema.proofs.fault.places_before.Given as goal

abbrev pub invariant-loop-i : goal.invariant-loop-i
invariant-loop-i l = prefix_len (λ p. is_before p l.place) l.places ≡ l.i + prefix_len (λ p. is_before p l.place) (drop l.i l.places)
