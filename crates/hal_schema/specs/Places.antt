-- Where the rules of a definition are broken, and the order of these places: the statements by their lines, then `blocks`, then the partitions in the order of the file.
use Rattle.std.specs.Prelude.{ℕ, Bool, true, false, ◌&&◌, ◌||◌, not, nat_le, List, [], ◌∷◌, ◌++◌, Option, None, Some, drop, fold, flat_map, if◌then◌else◌}
use Rattle.hal_schema.specs.declared.fault.Place.{Place}
use Rattle.hal_schema.specs.Raw.{in_order}

abbrev pub statement : ℕ → Place
statement line = record { part = false; line = line }

-- the partition of this place in the file, or `blocks` at 0
abbrev pub partition : ℕ → Place
partition place = record { part = true; line = place }

abbrev pub at_or_before : Place → Place → Bool
at_or_before a b = if a.part then (b.part && nat_le a.line b.line) else (b.part || nat_le a.line b.line)

abbrev pub earlier : Place → Place → Place
earlier a b = if at_or_before a b then a else b

abbrev pub later : Place → Place → Place
later a b = if at_or_before a b then b else a

abbrev pub sooner : Option Place → Place → Option Place
sooner None place = Some place
sooner (Some first) place = Some (earlier first place)

-- the first of the places
abbrev pub least : List Place → Option Place
least places = fold sooner None places

-- the place, where the rule is broken there
abbrev pub when : Bool → Place → List Place
when broken place = if broken then place ∷ [] else []

-- each two that are the same, at the later one
abbrev pub twice : {X : Type 0} → (X → X → Bool) → (X → Place) → List X → List Place
twice same at [] = []
twice same at (x ∷ xs) = flat_map (λ y. when (same x y) (later (at x) (at y))) xs ++ twice same at xs

abbrev pub is_before : Place → Place → Bool
is_before a b = not (at_or_before b a)

-- the items that pass a count: in the order of the places, those behind the first so many
unfoldable pub passing : ℕ → List Place → List Place
passing most places = drop most (in_order is_before places)
