-- What a reorganization leaves: in each data set of the output addresses rise along the hierarchic sequence.
use Rattle.std.specs.Prelude.{◌≡◌, ◌/◌, ◌^◌, ◌==◌, nat_lt, Bool, true, not, ◌||◌, List, [], ◌∷◌, ◌++◌}
use Rattle.std.specs.List.{list_all}
use Rattle.hal_schema.specs.Forest.{all_pairs}
use Rattle.volume_rules.specs.View.{Homed}

-- an address begins with the letter of its data set
abbrev pub rises_before : Homed → Homed → Bool
rises_before a b = not (a.addr / 2 ^ 28 == b.addr / 2 ^ 28) || nat_lt a.addr b.addr

abbrev pub is_rising : List Homed → Bool
is_rising rows = all_pairs rises_before rows

-- a row behind all others, at an address above all of its data set, goes on with that
abbrev pub RisingGoesOn : Type 0
RisingGoesOn = (rows : List Homed) (new : Homed) → is_rising rows ≡ true → list_all (λ r. rises_before r new) rows ≡ true → is_rising (rows ++ new ∷ []) ≡ true
