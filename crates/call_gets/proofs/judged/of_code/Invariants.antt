use Rattle.std.proofs.Common.{◌≡◌, ◌==◌, [], ◌∷◌, ◌++◌, drop}
use Rattle.std.specs.Prelude.{find}
use Rattle.position_state.specs.declared.spot.Spot.{Spot}
use Rattle.call_gets.proofs.judged.of_code.Given as goal

abbrev pub invariant-loop-one : goal.invariant-loop-one
invariant-loop-one l = find (λ (s : Spot). s.code == l.code) (l.above ++ l.spot ∷ []) ≡ find (λ (s : Spot). s.code == l.code) (drop l.one-index l.above ++ l.spot ∷ [])
