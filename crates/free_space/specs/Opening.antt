-- What a store is opened on: pages that are tiled, or the first page and offset at which one isn't.
use Rattle.std.specs.Prelude.{◌≡◌, ℕ, ◌<◌, List, slice_get, Some}
use Rattle.hal_base.specs.declared.place.Shape.{Shape}
use Rattle.segment_blocks.specs.declared.tile.Tile.{Tile}
use Rattle.segment_blocks.specs.Tiling.{IsTiling, StopsAt}
use Rattle.segment_blocks.specs.declared.space.Space.{Space}
use Rattle.segment_blocks.specs.Space.{space_of}

-- page n is tiled, and these are the numbers of its tiles
pub record IsSpaceOf (shapes : List Shape) (pages : List (List ℕ)) (n : ℕ) (space : Space) : Type 0 where
  pub page : List ℕ
  pub tiles : List Tile
  pub among : slice_get pages n ≡ Some page
  pub is : IsTiling shapes page tiles
  pub numbers : space ≡ space_of tiles

-- at this offset of page n no tile begins, and those before it lead there
pub record BreaksAt (shapes : List Shape) (pages : List (List ℕ)) (n offset : ℕ) : Type 0 where
  pub page : List ℕ
  pub among : slice_get pages n ≡ Some page
  pub stops : StopsAt shapes page offset

-- and each page before it is tiled
pub record FirstBreaksAt (shapes : List Shape) (pages : List (List ℕ)) (n offset : ℕ) : Type 0 where
  pub breaks : BreaksAt shapes pages n offset
  pub before : (k : ℕ) (page : List ℕ) → k < n → slice_get pages k ≡ Some page → (tiles : List Tile) × IsTiling shapes page tiles
