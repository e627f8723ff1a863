-- A change of one side is the same change of the forest that the sides are together: the rows of the other sides stay where they are.
use Rattle.std.specs.Prelude.{◌≡◌, ℕ, ◌<◌, true, List, [], ◌∷◌, ◌++◌, None, Some}
use Rattle.std.specs.List.{list_all, list_any}
use Rattle.hal_base.specs.declared.place.Ilk.{Ilk}
use Rattle.hal_schema.specs.declared.row.Row.{Row}
use Rattle.hal_schema.specs.declared.schema.Schema.{Schema}
use Rattle.hal_schema.specs.Forest.{all_pairs, names_apart}
use Rattle.hal_schema.specs.Insertion.{inserted}
use Rattle.hal_schema.specs.Row.{same_name}
use Rattle.hal_schema.specs.Span.{without_span, replaced}
use Rattle.record_walk.specs.Tree.{Occurrence}
use Rattle.record_walk.specs.Listing.{placed, list_in, rows_of}
use Rattle.record_walk.specs.Side.{heads_in}
use Rattle.record_walk.specs.Volume.{PlacedSide, listed, all_before, AreAllSides}

abbrev pub rows_in : PlacedSide → List Row
rows_in side = rows_of (list_in None side.trees)

abbrev pub rows_in_all : List PlacedSide → List Row
rows_in_all sides = rows_of (listed sides)

-- a side among others, whose rows all have names of their own
pub record IsAmong (schema : Schema) (front : List PlacedSide) (side : PlacedSide) (behind : List PlacedSide) : Type 0 where
  pub sides : AreAllSides schema (front ++ side ∷ behind)
  pub names : all_pairs names_apart (rows_in_all (front ++ side ∷ behind)) ≡ true

-- a row of the side has this name
abbrev pub HasName : PlacedSide → Ilk → Type 0
HasName side name = list_any (λ row. same_name row.name name) (rows_in side) ≡ true

-- all roots of the sides in front stand before a root, and all roots of the sides behind after it
pub record StandsInSide (schema : Schema) (front behind : List PlacedSide) (root : Occurrence) : Type 0 where
  pub after : list_all (λ side. all_before schema (heads_in side.trees) (root ∷ [])) front ≡ true
  pub before : list_all (λ side. all_before schema (root ∷ []) (heads_in side.trees)) behind ≡ true

pub record ChangesOfOneSide : Type 0 where
  pub cut : (schema : Schema) (front behind : List PlacedSide) (side changed : PlacedSide) (name : Ilk) → IsAmong schema front side behind → HasName side name
      → rows_in changed ≡ without_span schema.types (rows_in side) name
      → rows_in_all (front ++ changed ∷ behind) ≡ without_span schema.types (rows_in_all (front ++ side ∷ behind)) name
  pub content : (schema : Schema) (front behind : List PlacedSide) (side changed : PlacedSide) (name : Ilk) (content : List ℕ)
      → IsAmong schema front side behind → HasName side name
      → rows_in changed ≡ replaced (rows_in side) name content
      → rows_in_all (front ++ changed ∷ behind) ≡ replaced (rows_in_all (front ++ side ∷ behind)) name content
  -- below a row of the side
  pub child : (schema : Schema) (front behind : List PlacedSide) (side changed : PlacedSide) (above : Ilk) (new : Occurrence)
      → IsAmong schema front side behind → HasName side above
      → 0 < new.code → rows_in changed ≡ inserted schema (rows_in side) (placed (Some above) new).row
      → rows_in_all (front ++ changed ∷ behind) ≡ inserted schema (rows_in_all (front ++ side ∷ behind)) (placed (Some above) new).row
  pub root : (schema : Schema) (front behind : List PlacedSide) (side changed : PlacedSide) (new : Occurrence) → IsAmong schema front side behind
      → new.code ≡ 1
      → StandsInSide schema front behind new → rows_in changed ≡ inserted schema (rows_in side) (placed None new).row
      → rows_in_all (front ++ changed ∷ behind) ≡ inserted schema (rows_in_all (front ++ side ∷ behind)) (placed None new).row
