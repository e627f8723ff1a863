-- A block that is measured, one tile after the other.
use Rattle.std.proofs.Common.{◌≡◌, ℕ, ◌+◌, ◌≤◌, Bool, List, [], ◌∷◌, ◌++◌, length, drop, ap, subst, ◌∙◌}
use Rattle.hal_base.specs.declared.place.Shape.{Shape}
use Rattle.segment_blocks.specs.declared.tile.Tile.{Tile}
use Rattle.segment_blocks.specs.declared.head.Head.{Head}
use Rattle.segment_blocks.specs.declared.space.Space.{Space}
use Rattle.segment_blocks.specs.Space.{space_of}
use Rattle.segment_blocks.specs.Tiling.{IsTiling, is_hole}
use Rattle.segment_blocks.specs.TilesOf.{tiles_of}
use Rattle.segment_blocks.specs.Reading.{number16, HasHead, tile_of}
use Rattle.segment_blocks.proofs.Addresses.{IsBytes}
use Rattle.segment_blocks.proofs.Tiles.{head_begins}
use Rattle.segment_blocks.proofs.TilesOf.{tiling_is}
use Rattle.segment_blocks.proofs.Progress.{Progress, goes_on, ends}

pub record Measured (shapes : List Shape) (block : List ℕ) (at : ℕ) (after_hole : Bool) (space : Space) : Type 0 where
  pub tiles : List Tile
  pub progress : Progress shapes block tiles at after_hole
  pub numbers : space ≡ space_of tiles

pub measured_on : (shapes : List Shape) (block : List ℕ) (at : ℕ) (after_hole : Bool) (space next : Space) (head : Head) (len : ℕ) → length block ≡ 4096 → IsBytes (drop at block) → Measured shapes block at after_hole space
    → HasHead shapes after_hole (drop at block) head → len ≡ number16 (at + 2) block
    → ((tiles : List Tile) → space ≡ space_of tiles → next ≡ space_of (tiles ++ tile_of head at (drop at block) ∷ []))
    → Measured shapes block (at + len) (is_hole (tile_of head at (drop at block))) next
measured_on shapes block at after_hole space next head len long fits m has read more =
    let tile : Tile = tile_of head at (drop at block) in
    record {
      tiles = m.tiles ++ tile ∷ [];
      progress = goes_on shapes block m.tiles at after_hole tile len long m.progress (head_begins shapes at after_hole (drop at block) head fits has) read;
      numbers = more m.tiles m.numbers;
    }

pub record IsMeasured (shapes : List Shape) (block : List ℕ) (space : Space) : Type 0 where
  pub tiled : IsTiling shapes block (tiles_of shapes block)
  pub numbers : space ≡ space_of (tiles_of shapes block)

pub measured_all : (shapes : List Shape) (block : List ℕ) (at : ℕ) (after_hole : Bool) (space : Space) → length block ≤ at → Measured shapes block at after_hole space → IsMeasured shapes block space
measured_all shapes block at after_hole space done m =
    let t : IsTiling shapes block m.tiles = ends shapes block m.tiles at after_hole done m.progress in
    let same : m.tiles ≡ tiles_of shapes block = tiling_is shapes block m.tiles t in
    record { tiled = subst (IsTiling shapes block) same t; numbers = m.numbers ∙ ap space_of same }
