-- The cell at an offset among the tiles of a page, as a function and as one of the tiles.
use Rattle.std.proofs.Common.{◌≡◌, ℕ, zero, suc, ◌+◌, ◌<◌, ◌≤◌, inl, inr, Bool, true, false, cond, eqb, List, [], ◌∷◌, length, Option, None, Some, sym, ap, ◌∙◌, arith}
use Rattle.std.specs.Prelude.{slice_get}
use Rattle.std.proofs.lemmas.Bool.{ne_eqb}
use Rattle.std.proofs.lemmas.Bool.Decides.{eqb_tells}
use Rattle.hal_base.specs.declared.place.Shape.{Shape}
use Rattle.segment_blocks.specs.declared.tile.Cell.{Cell}
use Rattle.segment_blocks.specs.declared.tile.Tile.{Tile}
use Rattle.segment_blocks.specs.declared.tile.Tile.TheVariants.{Hole, Seg}
use Rattle.segment_blocks.specs.Tiling.{spelling, AreTilesFrom, is_hole}
use Rattle.segment_blocks.specs.TilesOf.{cell_among}
use Rattle.segment_blocks.proofs.Tiles.{tile_whole}

pub first_or : (at offset : ℕ) (cell : Cell) (rest : Option Cell) → at ≡ offset → cond (eqb at offset) (Some cell) rest ≡ Some cell
first_or at offset cell rest equal =
    elim (eqb_tells at offset) [
      | inl same ↦ ap (λ (b : Bool). cond b (Some cell) rest) same.0
      | inr apart ↦ absurd (apart.1 equal)
    ]

pub rest_or : (at offset : ℕ) (cell : Cell) (rest : Option Cell) → at < offset → cond (eqb at offset) (Some cell) rest ≡ rest
rest_or at offset cell rest below = ap (λ (b : Bool). cond b (Some cell) rest) (ne_eqb at offset (λ same. omega (arith, same, below)))

same_seg : (at offset : ℕ) (one cell : Cell) → Some (Seg at one) ≡ Some (Seg offset cell) → (at ≡ offset) × (one ≡ cell)
same_seg at offset one cell is = (cc, cc)

-- a cell among tiles begins where these do or behind it
pub not_before : (shapes : List Shape) (start : ℕ) (after_hole : Bool) (tiles : List Tile) (place offset : ℕ) (cell : Cell) → AreTilesFrom shapes start after_hole tiles → slice_get tiles place ≡ Some (Seg offset cell) → start ≤ offset
not_before shapes start after_hole [] place offset cell are is = absurd (let wrong : None ≡ Some (Seg offset cell) = is in cc)
not_before shapes start after_hole (Hole at len ∷ tiles) zero offset cell are is = absurd (let wrong : Some (Hole at len) ≡ Some (Seg offset cell) = is in cc)
not_before shapes start after_hole (Seg at one ∷ tiles) zero offset cell are is = omega (arith, (same_seg at offset one cell is).0, are.0.0)
not_before shapes start after_hole (tile ∷ tiles) (suc place) offset cell are is =
    omega (arith, not_before shapes (start + length (spelling tile)) (is_hole tile) tiles place offset cell are.1 is)

pub among_is : (shapes : List Shape) (start : ℕ) (after_hole : Bool) (tiles : List Tile) (place offset : ℕ) (cell : Cell) → AreTilesFrom shapes start after_hole tiles → slice_get tiles place ≡ Some (Seg offset cell) → cell_among offset tiles ≡ Some cell
unfolding cell_among
among_is shapes start after_hole [] place offset cell are is = absurd (let wrong : None ≡ Some (Seg offset cell) = is in cc)
among_is shapes start after_hole (Hole at len ∷ tiles) zero offset cell are is = absurd (let wrong : Some (Hole at len) ≡ Some (Seg offset cell) = is in cc)
among_is shapes start after_hole (Hole at len ∷ tiles) (suc place) offset cell are is = among_is shapes (start + length (spelling (Hole at len))) true tiles place offset cell are.1 is
among_is shapes start after_hole (Seg at one ∷ tiles) zero offset cell are is =
    first_or at offset one (cell_among offset tiles) (same_seg at offset one cell is).0 ∙ ap (λ (c : Cell). Some c) (same_seg at offset one cell is).1
among_is shapes start after_hole (Seg at one ∷ tiles) (suc place) offset cell are is =
    let next : ℕ = start + length (spelling (Seg at one)) in
    let behind : next ≤ offset = not_before shapes next false tiles place offset cell are.1 is in
    rest_or at offset one (cell_among offset tiles) (omega (arith, behind, are.0.0, (tile_whole shapes start after_hole (Seg at one) are.0).least))
    ∙ among_is shapes next false tiles place offset cell are.1 is

-- a tile among others has a place among them and one more
abbrev Found : List Tile → ℕ → Cell → Type 0
Found tiles offset cell = (place : ℕ) × (slice_get tiles place ≡ Some (Seg offset cell))

behind_it : (tile : Tile) (tiles : List Tile) (offset : ℕ) (cell : Cell) → Found tiles offset cell → Found (tile ∷ tiles) offset cell
behind_it tile tiles offset cell found = (suc found.0, found.1)

pub among_found : (offset : ℕ) (tiles : List Tile) (cell : Cell) → cell_among offset tiles ≡ Some cell → (place : ℕ) × (slice_get tiles place ≡ Some (Seg offset cell))
unfolding cell_among
among_found offset [] cell is = absurd (let wrong : None ≡ Some cell = is in cc)
among_found offset (Hole at len ∷ tiles) cell is = behind_it (Hole at len) tiles offset cell (among_found offset tiles cell is)
among_found offset (Seg at one ∷ tiles) cell is =
    elim (eqb_tells at offset) [
      | inl same ↦ let one_is : Some one ≡ Some cell = sym (first_or at offset one (cell_among offset tiles) same.1) ∙ is in
          (0, ap (λ (n : ℕ). Some (Seg n one)) same.1 ∙ ap (λ (o : Option Cell). seg_in offset o) one_is)
      | inr apart ↦ behind_it (Seg at one) tiles offset cell (among_found offset tiles cell (sym (ap (λ (b : Bool). cond b (Some one) (cell_among offset tiles)) apart.0) ∙ is))
    ]
  where
    seg_in : ℕ → Option Cell → Option Tile
    seg_in n None = None
    seg_in n (Some c) = Some (Seg n c)
