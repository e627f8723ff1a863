-- What is known of a page's tiles without reading them again: how much is free, and where.
use Rattle.std.specs.Prelude.{◌≡◌, ℕ, zero, suc, ◌+◌, ◌-◌, ◌^◌, min, max, Bool, true, false, ◌||◌, List, [], ◌∷◌}
use Rattle.segment_blocks.specs.declared.tile.Tile.{Tile}
use Rattle.segment_blocks.specs.declared.tile.Tile.TheVariants.{Hole, Seg}
use Rattle.segment_blocks.specs.declared.space.Space.{Space}

abbrev pub hole_length : Tile → ℕ
hole_length (Hole at len) = len
hole_length (Seg at cell) = 0

-- the length of the largest hole, 0 where there is none
abbrev pub largest_hole : List Tile → ℕ
largest_hole [] = 0
largest_hole (tile ∷ tiles) = max (hole_length tile) (largest_hole tiles)

-- the bytes of all holes
abbrev pub free_bytes : List Tile → ℕ
free_bytes [] = 0
free_bytes (tile ∷ tiles) = hole_length tile + free_bytes tiles

-- the bytes behind the last cell: the last tile's length where it is a hole, else 0
abbrev pub last_hole : List Tile → ℕ
last_hole [] = 0
last_hole (tile ∷ []) = hole_length tile
last_hole (tile ∷ next ∷ tiles) = last_hole (next ∷ tiles)

abbrev pub is_cell : Tile → Bool
is_cell (Hole at len) = false
is_cell (Seg at cell) = true

abbrev pub holds_cell : List Tile → Bool
holds_cell [] = false
holds_cell (tile ∷ tiles) = is_cell tile || holds_cell tiles

abbrev pub space_of : List Tile → Space
space_of tiles = record {
  largest = largest_hole tiles;
  free = min (free_bytes tiles) (2 ^ 16 - 1);
  last = last_hole tiles;
  cells = holds_cell tiles;
}

-- none of them is a cell
abbrev pub AreHoles : List Tile → Type 0
AreHoles tiles = holds_cell tiles ≡ false

-- what is left of a hole, none where nothing is
abbrev pub left_over : ℕ → ℕ → List Tile
left_over at zero = []
left_over at (suc len) = Hole at (suc len) ∷ []
