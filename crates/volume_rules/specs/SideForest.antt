-- The sides of a volume, one behind another: partitions in order, of each the output before the input. Where each side is in
-- hierarchic sequence and the rules are kept, together they are a forest; and what is done in one side is done in the forest.
use Rattle.std.specs.Prelude.{◌≡◌, ℕ, ◌+◌, Bool, true, false, not, if◌then◌else◌, List, [], ◌∷◌, ◌++◌, map, flat_map, Some}
use Rattle.std.specs.List.{list_all, slice_get}
use Rattle.hal_base.specs.declared.place.Cursor.{Cursor}
use Rattle.hal_base.specs.declared.place.Cursor.TheVariants.{Front, At, Anchors}
use Rattle.hal_base.specs.declared.place.Ilk.{Ilk}
use Rattle.hal_schema.specs.declared.row.Row.{Row}
use Rattle.hal_schema.specs.declared.schema.Schema.{Schema}
use Rattle.hal_schema.specs.Forest.{entries_differ, is_forest}
use Rattle.hal_schema.specs.Insertion.{inserted}
use Rattle.hal_schema.specs.Row.{is_new_name}
use Rattle.hal_schema.specs.Span.{without_span, replaced}
use Rattle.forest_laws.specs.Joining.{is_in_sequence, joined, StandInOrder, ComesWithin}
use Rattle.volume_rules.specs.View.{View, is_moving}
use Rattle.volume_rules.specs.Rules.{KeepsRule6, KeepsRule10}
use Rattle.volume_rules.specs.Volume.{Volume, RowsStand, forest_of}
use Rattle.volume_rules.specs.Sides.{KeepsRule7}

abbrev pub side_at : View → ℕ → List Row
side_at view number = map (λ r. r.row) (view.rows number)

abbrev pub sides_in : View → List (List Row)
sides_in view = if is_moving view.state then side_at view (view.state.number + 1) ∷ side_at view view.state.number ∷ [] else side_at view view.state.number ∷ []

abbrev pub sides_of : Volume → List (List Row)
sides_of volume = flat_map sides_in volume.parts

-- a PHDAM partition has a count of anchors as its cursor, a PHIDAM partition a root key; or it is at the front
abbrev pub has_its_cursor : Bool → Cursor → Bool
has_its_cursor phdam Front = true
has_its_cursor phdam (At key) = not phdam
has_its_cursor phdam (Anchors done) = phdam

-- the rules of the partition at a place that its sides need, each side being in sequence by itself
pub record KeepsSides (schema : Schema) (place : ℕ) (view : View) : Type 0 where
  pub defined : slice_get schema.parts place ≡ Some view.part
  pub numbered : view.state.part ≡ view.part.number
  pub cursor : has_its_cursor schema.phdam view.state.cursor ≡ true
  pub rows : RowsStand view
  pub rule6 : KeepsRule6 view
  pub rule7 : KeepsRule7 schema place view
  pub rule10 : KeepsRule10 schema.types view
  pub sequence : list_all (is_in_sequence schema) (sides_in view) ≡ true

abbrev pub KeepAllSides : Schema → Volume → Type 0
KeepAllSides schema volume = (place : ℕ) (view : View) → slice_get volume.parts place ≡ Some view → KeepsSides schema place view

pub record SidesStand (schema : Schema) (volume : Volume) : Type 0 where
  pub order : StandInOrder schema (sides_of volume)
  pub list : forest_of volume ≡ joined (sides_of volume)
  pub forest : list_all (entries_differ schema.types (forest_of volume)) schema.indexes ≡ true → is_forest schema (forest_of volume) ≡ true

abbrev pub SidesAreAForest : Type 0
SidesAreAForest = (schema : Schema) (volume : Volume) → KeepAllSides schema volume → SidesStand schema volume

-- one side has become another list, and all others stay
pub record OneSide (volume now : Volume) (before : List (List Row)) (old new : List Row) (after : List (List Row)) : Type 0 where
  pub was : sides_of volume ≡ before ++ old ∷ after
  pub is : sides_of now ≡ before ++ new ∷ after

-- what is inserted into one side, cut out of it or replaced in it is so in the forest
pub record ActsAlike (schema : Schema) (volume now : Volume) (before : List (List Row)) (side : List Row) (after : List (List Row)) : Type 0 where
  pub inserts : (new : Row) → OneSide volume now before side (inserted schema side new) after → ComesWithin schema (joined before) side (joined after) new
      → forest_of now ≡ inserted schema (forest_of volume) new
  pub cuts : (name : Ilk) → OneSide volume now before side (without_span schema.types side name) after → is_new_name side name ≡ false
      → forest_of now ≡ without_span schema.types (forest_of volume) name
  pub replaces : (name : Ilk) (content : List ℕ) → OneSide volume now before side (replaced side name content) after → is_new_name side name ≡ false
      → forest_of now ≡ replaced (forest_of volume) name content

abbrev pub SidesActAlike : Type 0
SidesActAlike = (schema : Schema) (volume now : Volume) (before : List (List Row)) (side : List Row) (after : List (List Row)) → KeepAllSides schema volume
    → ActsAlike schema volume now before side after
