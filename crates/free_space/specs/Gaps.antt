-- Tiles that stand at a place in a list of tiles.
use Rattle.std.specs.Prelude.{◌≡◌, ℕ, ◌+◌, ◌<◌, ◌≤◌, List, length, take, slice_get, Some}
use Rattle.segment_blocks.specs.declared.tile.Tile.{Tile}
use Rattle.segment_blocks.specs.declared.tile.Tile.TheVariants.{Hole, Seg}
use Rattle.free_space.specs.declared.tiles.Gap.{Gap}
use Rattle.segment_blocks.specs.Space.{largest_hole}

-- a hole among the tiles, in which so many bytes have place
pub record IsGap (tiles : List Tile) (len : ℕ) (gap : Gap) : Type 0 where
  pub hole : slice_get tiles gap.place ≡ Some (Hole gap.at gap.room)
  pub fits : len ≤ gap.room

-- and no hole before it has place for them
pub record IsFirstGap (tiles : List Tile) (len : ℕ) (gap : Gap) : Type 0 where
  pub is : IsGap tiles len gap
  pub first : largest_hole (take gap.place tiles) < len

-- and no tile stands behind it
pub record IsLastGap (tiles : List Tile) (len : ℕ) (gap : Gap) : Type 0 where
  pub is : IsGap tiles len gap
  pub last : gap.place + 1 ≡ length tiles

-- where a tile begins in its page
abbrev pub tile_offset : Tile → ℕ
tile_offset (Hole at len) = at
tile_offset (Seg at cell) = at
