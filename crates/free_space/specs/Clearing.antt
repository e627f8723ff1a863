-- A cell that becomes a hole with the holes that touch it.
use Rattle.std.specs.Prelude.{◌≡◌, ℕ, Bool, false, List, [], ◌∷◌, ◌++◌}
use Rattle.segment_blocks.specs.declared.tile.Cell.{Cell}
use Rattle.segment_blocks.specs.declared.tile.Tile.{Tile}
use Rattle.segment_blocks.specs.declared.tile.Tile.TheVariants.{Hole, Seg}
use Rattle.segment_blocks.specs.Tiling.{is_hole}
use Rattle.segment_blocks.specs.Space.{AreHoles}

-- whether a hole ends where these tiles do, where one does before them or none
abbrev pub ends_in_hole : Bool → List Tile → Bool
ends_in_hole after_hole [] = after_hole
ends_in_hole after_hole (tile ∷ tiles) = ends_in_hole (is_hole tile) tiles

abbrev pub begins_in_hole : List Tile → Bool
begins_in_hole [] = false
begins_in_hole (tile ∷ tiles) = is_hole tile

-- the tiles without the holes at their end
pub record IsFront (tiles front : List Tile) : Type 0 where
  pub left : List Tile
  pub whole : tiles ≡ front ++ left
  pub holes : AreHoles left
  pub ends : left ≡ [] → ends_in_hole false front ≡ false

-- the tiles without the holes at their begin
pub record IsBack (tiles back : List Tile) : Type 0 where
  pub right : List Tile
  pub whole : tiles ≡ right ++ back
  pub holes : AreHoles right
  pub begins : right ≡ [] → begins_in_hole back ≡ false

-- the cell and the holes that touch it have become one hole
pub record IsCleared (tiles : List Tile) (offset : ℕ) (cell : Cell) (new : List Tile) : Type 0 where
  pub before : List Tile
  pub left : List Tile
  pub right : List Tile
  pub after : List Tile
  pub at : ℕ
  pub len : ℕ
  pub was : tiles ≡ before ++ ((left ++ Seg offset cell ∷ right) ++ after)
  pub left_holes : AreHoles left
  pub right_holes : AreHoles right
  pub is : new ≡ before ++ Hole at len ∷ after
