-- The first of some places.
use Rattle.std.proofs.Common.{◌≡◌, List, [], ◌∷◌, Some, None, fold, refl}
use Rattle.hal_schema.specs.declared.fault.Place.{Place}
use Rattle.hal_schema.specs.Places.{earlier, sooner, least}

never_none : (places : List Place) (p : Place) → fold sooner (Some p) places ≡ None → ⊥
never_none [] p e = cc
never_none (q ∷ places) p e = never_none places (earlier p q) e

pub least-none : (places : List Place) → least places ≡ None → places ≡ []
least-none [] e = refl
least-none (p ∷ places) e = absurd (never_none places p e)
