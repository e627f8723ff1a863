-- What the view of a forest in hierarchic sequence keeps.
use Rattle.std.specs.Prelude.{◌≡◌, ℕ, ◌==◌, nat_lt, Bool, true, false, not, ◌&&◌, ◌||◌, List, [], ◌∷◌, ◌++◌, Option, None, Some, IsTrue, option_and_then, if◌then◌else◌}
use Rattle.std.specs.List.{list_all, list_any}
use Rattle.std.specs.Option.{option_map_or}
use Rattle.std.specs.Ordering.{is_lt}
use Rattle.std.specs.Str.{bytes_eq}
use Rattle.hal_schema.specs.declared.row.Row.{Row}
use Rattle.hal_schema.specs.declared.schema.Schema.{Schema}
use Rattle.hal_schema.specs.declared.schema.SegType.{SegType}
use Rattle.hal_schema.specs.SegType.{level_of, type_of, is_parent_code, portion}
use Rattle.hal_schema.specs.Forest.{is_forest, all_pairs}
use Rattle.hal_schema.specs.Paths.{with_paths}
use Rattle.hal_schema.specs.Roots.{root_cmp}
use Rattle.position_state.specs.declared.session.Anchor.{Anchor}
use Rattle.position_state.specs.declared.spot.Spot.{Spot}
use Rattle.position_state.specs.View.{view_of, is_at, before, behind, is_place_of, root_named}
use Rattle.position_state.specs.Looks.{found_at}

-- the element is found at its place, this stands before the place, this behind it, and there none has the same place
pub record IsInItsPlace (view front : List Spot) (spot : Spot) (rest : List Spot) : Type 0 where
  pub precedes : before spot.at view ≡ front
  pub follows : behind spot.at view ≡ rest
  pub found : found_at spot.at view ≡ Some spot
  pub place : IsTrue (is_place_of view spot.at)
  pub alone : list_any (is_at spot.at) rest ≡ false

abbrev pub PlacesDiffer : Type 0
PlacesDiffer = (schema : Schema) (rows : List Row) (front rest : List Spot) (spot : Spot) → IsTrue (is_forest schema rows)
    → view_of schema None rows ≡ front ++ spot ∷ rest → IsInItsPlace (view_of schema None rows) front spot rest

-- the element at a place names the place
abbrev pub PlacesAreNamed : Type 0
PlacesAreNamed = (schema : Schema) (rows : List Row) (at : Anchor) (spot : Spot) → IsTrue (is_place_of (view_of schema None rows) at)
    → found_at at (view_of schema None rows) ≡ Some spot → spot.at ≡ at

abbrev pub LevelsAreOfTypes : Type 0
LevelsAreOfTypes = (schema : Schema) (rows : List Row) → IsTrue (list_all (λ spot. spot.level == level_of schema.types spot.code) (view_of schema None rows))

-- ---- records: a root and what is below it

-- the sequence field in the content of a root
abbrev pub root_field : List SegType → List ℕ → List ℕ
root_field types content = option_map_or (λ k. portion k.start k.bytes content) (option_and_then (λ t. t.key) (type_of types 1)) []

-- an element of the first type is of level 1, its key is its sequence field, and its place names it; every other is deeper
abbrev pub is_keyed : List SegType → Spot → Bool
is_keyed types spot =
    if spot.code == 1 then spot.level == 1 && bytes_eq spot.key (root_field types spot.content) && bytes_eq (root_named spot.at) spot.key else nat_lt 1 spot.level

abbrev pub RootsAreKeyed : Type 0
RootsAreKeyed = (schema : Schema) (rows : List Row) → IsTrue (is_forest schema rows) → IsTrue (list_all (is_keyed schema.types) (view_of schema None rows))

abbrev pub in_root_order : Schema → Spot → Spot → Bool
in_root_order schema a b = not (a.code == 1 && b.code == 1) || is_lt (root_cmp schema a.key b.key)

-- of two roots the first is lower in the root order
abbrev pub RootsRise : Type 0
RootsRise = (schema : Schema) (rows : List Row) → IsTrue (is_forest schema rows) → IsTrue (all_pairs (in_root_order schema) (view_of schema None rows))

-- each element is a root, or is under the root that the one before it names
abbrev pub stand_together : List ℕ → List Spot → Bool
stand_together root [] = true
stand_together root (spot ∷ more) = (spot.code == 1 || bytes_eq (root_named spot.at) root) && stand_together (root_named spot.at) more

abbrev pub RecordsStandTogether : Type 0
RecordsStandTogether = (schema : Schema) (rows : List Row) → IsTrue (is_forest schema rows) → IsTrue (stand_together [] (view_of schema None rows))

-- ---- types along a path

-- the first type is below none, and every other below its parent
abbrev pub is_type_below : List SegType → Option ℕ → ℕ → Bool
is_type_below types None code = code == 1
is_type_below types (Some above) code = is_parent_code types above code

-- the type of each element is right below that of the one before it
abbrev pub goes_down : List SegType → Option ℕ → List Spot → Bool
goes_down types above [] = true
goes_down types above (spot ∷ more) = is_type_below types above spot.code && goes_down types (Some spot.code) more

abbrev pub TypesGoDown : Type 0
TypesGoDown = (schema : Schema) (rows : List Row) → IsTrue (is_forest schema rows)
    → IsTrue (list_all (λ p. goes_down schema.types None p.0) (with_paths (λ spot. spot.level) [] (view_of schema None rows)))
