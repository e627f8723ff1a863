-- What a volume holds is a function of the rows of its live sides and of its states.
use Rattle.std.proofs.Common.{◌≡◌, List, [], ◌∷◌, ◌++◌, map, refl, sym, ap, ◌∙◌}
use Rattle.std.specs.Prelude.{flat_map}
use Rattle.hal_schema.specs.declared.row.Row.{Row}
use Rattle.volume_rules.specs.View.{Homed, View}
use Rattle.volume_rules.specs.Volume.{walked, AlikeHoldTheSame}

-- the list, from the rows of the sides
abbrev from_sides : List (List Homed) → List Row
from_sides sides = flat_map (λ side. map (λ (r : Homed). r.row) side) sides

by_sides : (views : List View) → flat_map (λ view. map (λ (r : Homed). r.row) (walked view)) views ≡ from_sides (map walked views)
by_sides [] = refl
by_sides (view ∷ views) = ap (λ (rows : List Row). map (λ (r : Homed). r.row) (walked view) ++ rows) (by_sides views)

pub alike_hold : AlikeHoldTheSame
alike_hold schema volume other rows states holds sound same state_same = record {
  sound = sound;
  list = by_sides other.parts ∙ ap from_sides same ∙ sym (by_sides volume.parts) ∙ holds.list;
  parts = state_same ∙ holds.parts;
}
