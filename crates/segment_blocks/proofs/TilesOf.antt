-- A tiling of a block is the function of its bytes.
use Rattle.std.proofs.Common.{◌≡◌, ℕ, zero, suc, ◌+◌, ◌-◌, ◌<◌, ◌≤◌, Bool, false, cond, eqb, List, [], ◌∷◌, ◌++◌, length, get_or, drop, refl, sym, ap, ◌∙◌, arith}
use Rattle.std.proofs.lemmas.Bool.{ne_eqb}
use Rattle.std.proofs.lemmas.List.{length-append, length-drop, drop_at}
use Rattle.std.proofs.lemmas.Option.{get_or_from_slice_get}
use Rattle.hal_base.specs.declared.place.Shape.{Shape}
use Rattle.segment_blocks.specs.declared.tile.Cell.{Cell}
use Rattle.segment_blocks.specs.declared.tile.Tile.{Tile}
use Rattle.segment_blocks.specs.declared.tile.Tile.TheVariants.{Hole, Seg}
use Rattle.segment_blocks.specs.Tiling.{shape_of, spelling, spelled, IsTileAt, AreTilesFrom, IsTiling, is_hole}
use Rattle.segment_blocks.specs.Reading.{number16, cell_in}
use Rattle.segment_blocks.specs.TilesOf.{first_tile, tiles_from, tiles_of}
use Rattle.segment_blocks.proofs.Holes.{hole_again, IsReadAsHole}
use Rattle.segment_blocks.proofs.Cells.{cell_again, code_again, mark_again}
use Rattle.segment_blocks.proofs.Tiles.{tile_whole}

abbrev none : Shape
none = record { children = 0; bytes = 0 }

some_mark : (mark : ℕ) → 1 ≤ mark → eqb mark 0 ≡ false
some_mark mark low = ne_eqb mark 0 (λ is. omega (arith, is, low))

-- what spells a tile begins with it
first_is : (shapes : List Shape) (start : ℕ) (after_hole : Bool) (tile : Tile) (bytes more : List ℕ) → IsTileAt shapes start after_hole tile → bytes ≡ spelling tile ++ more → first_tile shapes start bytes ≡ tile
first_is shapes start after_hole (Hole at len) bytes more is e =
    let again : IsReadAsHole bytes len = hole_again bytes len more is.2 e in
    let cell : Cell = cell_in (get_or shapes (get_or bytes 1 0 - 1) none) bytes in
    ap (λ (m : ℕ). cond (eqb m 0) (Hole start (number16 2 bytes)) (Seg start cell)) again.begins.mark
    ∙ ap (Hole start) again.number ∙ ap (λ (n : ℕ). Hole n len) (sym is.0)
first_is shapes start after_hole (Seg at cell) bytes more is e =
    let marked : eqb (get_or bytes 0 0) 0 ≡ false = some_mark (get_or bytes 0 0) (mark_again bytes cell more e).0 in
    let shape : get_or shapes (get_or bytes 1 0 - 1) none ≡ shape_of cell =
    ap (λ (c : ℕ). get_or shapes (c - 1) none) (code_again bytes cell more e) ∙ get_or_from_slice_get shapes (cell.code - 1) (shape_of cell) none is.1.typed in
    ap (λ (b : Bool). cond b (Hole start (number16 2 bytes)) (Seg start (cell_in (get_or shapes (get_or bytes 1 0 - 1) none) bytes))) marked
    ∙ ap (λ (s : Shape). Seg start (cell_in s bytes)) shape
    ∙ ap (Seg start) (cell_again bytes cell more is.1.fits e) ∙ ap (λ (n : ℕ). Seg n cell) (sym is.0)

-- some bytes begin with a tile, and the others follow
one_more : (most : ℕ) (shapes : List Shape) (start : ℕ) (bytes : List ℕ) (tile : Tile) → 0 < length bytes → first_tile shapes start bytes ≡ tile
    → tiles_from (suc most) shapes start bytes ≡ tile ∷ tiles_from most shapes (start + length (spelling tile)) (drop (length (spelling tile)) bytes)
unfolding tiles_from
one_more most shapes start [] tile some is = absurd (omega (arith, some))
one_more most shapes start (byte ∷ bytes) tile some is =
    ap (λ (t : Tile). t ∷ tiles_from most shapes (start + length (spelling t)) (drop (length (spelling t)) (byte ∷ bytes))) is

from_none : (most : ℕ) (shapes : List Shape) (start : ℕ) → tiles_from most shapes start [] ≡ []
unfolding tiles_from
from_none zero shapes start = refl
from_none (suc most) shapes start = refl

from_is : (most : ℕ) (shapes : List Shape) (start : ℕ) (after_hole : Bool) (tiles : List Tile) → AreTilesFrom shapes start after_hole tiles → length (spelled tiles) ≤ most
    → tiles_from most shapes start (spelled tiles) ≡ tiles
from_is most shapes start after_hole [] are room = from_none most shapes start
from_is zero shapes start after_hole (tile ∷ tiles) are room =
    absurd (omega (arith, room, length-append (spelling tile) (spelled tiles), (tile_whole shapes start after_hole tile are.0).least))
from_is (suc most) shapes start after_hole (tile ∷ tiles) are room =
    let size : length (spelled (tile ∷ tiles)) ≡ length (spelling tile) + length (spelled tiles) = length-append (spelling tile) (spelled tiles) in
    let least = (tile_whole shapes start after_hole tile are.0).least in
    let next : ℕ = start + length (spelling tile) in
    one_more most shapes start (spelled (tile ∷ tiles)) tile (omega (arith, size, least)) (first_is shapes start after_hole tile (spelled (tile ∷ tiles)) (spelled tiles) are.0 refl)
    ∙ ap (λ (b : List ℕ). tile ∷ tiles_from most shapes next b) (drop_at (spelling tile) (spelled tiles) (length (spelling tile)) refl)
    ∙ ap (λ (l : List Tile). tile ∷ l) (from_is most shapes next (is_hole tile) tiles are.1 (omega (arith, room, size, least)))

pub tiling_is : (shapes : List Shape) (block : List ℕ) (tiles : List Tile) → IsTiling shapes block tiles → tiles ≡ tiles_of shapes block
tiling_is shapes block tiles t =
    sym (from_is (length block) shapes 16 false tiles t.tiled (omega (arith, ap length t.whole, length-drop 16 block)))
    ∙ ap (tiles_from (length block) shapes 16) (sym t.whole)
