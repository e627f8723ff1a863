-- A row behind all others, at an address above them.
use Rattle.std.proofs.Common.{◌≡◌, Bool, true, List, [], ◌∷◌, ◌++◌, refl}
use Rattle.std.specs.List.{list_all}
use Rattle.std.proofs.lemmas.Bool.{and_parts, and_from}
use Rattle.volume_rules.specs.View.{Homed}
use Rattle.volume_rules.specs.Rising.{rises_before, is_rising, RisingGoesOn}

all_end : (test : Homed → Bool) (rows : List Homed) (new : Homed) → list_all test rows ≡ true → test new ≡ true → list_all test (rows ++ new ∷ []) ≡ true
all_end test [] new h a = and_from (test new) true a refl
all_end test (r ∷ rows) new h a =
    let p = and_parts (test r) (list_all test rows) h in
    and_from (test r) (list_all test (rows ++ new ∷ [])) p.0 (all_end test rows new p.1 a)

pub rising_goes_on : RisingGoesOn
rising_goes_on [] new h a = refl
rising_goes_on (r ∷ rows) new h a =
    let p = and_parts (list_all (rises_before r) rows) (is_rising rows) h in
    let q = and_parts (rises_before r new) (list_all (λ r. rises_before r new) rows) a in
    and_from (list_all (rises_before r) (rows ++ new ∷ [])) (is_rising (rows ++ new ∷ [])) (all_end (rises_before r) rows new p.0 q.0) (rising_goes_on rows new p.1 q.1)
