-- What the calls on one data set make of its layout. Each names the tiles that give way; all others stay.
use Rattle.std.specs.Prelude.{◌≡◌, ℕ, true, List, [], ◌∷◌, ◌++◌, slice_get, slice_set, Some}
use Rattle.hal_base.specs.declared.pages.SetId.{SetId}
use Rattle.hal_base.specs.declared.place.Shape.{Shape}
use Rattle.segment_blocks.specs.declared.tile.Cell.{Cell}
use Rattle.segment_blocks.specs.declared.tile.Tile.{Tile}
use Rattle.segment_blocks.specs.declared.tile.Tile.TheVariants.{Hole, Seg}
use Rattle.segment_blocks.specs.Tiling.{IsTiling}
use Rattle.free_space.specs.declared.change.Change.{Change}
use Rattle.free_space.specs.declared.change.Change.TheVariants.{Pointers, Twin, Child, Content, Name, Copied}
use Rattle.free_space.specs.Address.{page_at, offset_at}
use Rattle.segment_blocks.specs.Space.{AreHoles}
use Rattle.free_space.specs.Map.{Alters, Drops, cell_at}

-- in page n a run of tiles gives way to another
pub record Replaces (old new : List (List Tile)) (n : ℕ) (before run other after : List Tile) : Type 0 where
  pub was : slice_get old n ≡ Some (before ++ (run ++ after))
  pub is : new ≡ slice_set old n (before ++ (other ++ after))

-- the cell at the address is changed
pub record Rewrites (set : SetId) (at : ℕ) (change : Cell → Cell) (old new : List (List Tile)) : Type 0 where
  pub before : List Tile
  pub cell : Cell
  pub after : List Tile
  pub replaced : Replaces old new (page_at at) before (Seg (offset_at at) cell ∷ []) (Seg (offset_at at) (change cell) ∷ []) after
  pub alters : Alters at change (cell_at set old) (cell_at set new)

-- the cell at the address and the holes that touch it become one hole
pub record GivesBack (set : SetId) (at : ℕ) (old new : List (List Tile)) : Type 0 where
  pub before : List Tile
  pub left : List Tile
  pub cell : Cell
  pub right : List Tile
  pub after : List Tile
  pub begin : ℕ
  pub len : ℕ
  pub replaced : Replaces old new (page_at at) before (left ++ Seg (offset_at at) cell ∷ right) (Hole begin len ∷ []) after
  pub left_holes : AreHoles left
  pub right_holes : AreHoles right
  pub drops : Drops at (cell_at set old) (cell_at set new)

-- what a change makes of a cell
abbrev pub changed : Change → Cell → Cell
changed (Pointers twin children) cell = record cell { twin = twin; children = children }
changed (Twin twin) cell = record cell { twin = twin }
changed (Child place to) cell = record cell { children = slice_set cell.children place to }
changed (Content content) cell = record cell { content = content }
changed (Name name) cell = record cell { name = name }
changed Copied cell = record cell { copied = true }

-- tiles with a cell among them, and the block that has another cell in its place
abbrev pub Rewritten : List Shape → List Tile → List ℕ → ℕ → (Cell → Cell) → Type 0
Rewritten shapes found block offset change = (before : List Tile) × (cell : Cell) × (after : List Tile) × (found ≡ before ++ Seg offset cell ∷ after)
    × IsTiling shapes block (before ++ Seg offset (change cell) ∷ after)
