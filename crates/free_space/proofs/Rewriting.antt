-- A tile that stands in a page, and a cell that is written over one of its shape.
use Rattle.std.proofs.Common.{◌≡◌, ℕ, ◌+◌, ◌-◌, ◌≢◌, ◌<◌, ◌≤◌, false, Option, None, List, [], ◌∷◌, ◌++◌, length, get_or, take, drop, Some, refl, sym, ap, subst, ◌∙◌, arith}
use Rattle.std.specs.Prelude.{slice_get}
use Rattle.std.proofs.lemmas.List.{length-append, append-nil}
use Rattle.std.proofs.lemmas.Option.{slice_get_within, get_or_from_slice_get}
use Rattle.hal_base.specs.declared.place.Shape.{Shape}
use Rattle.segment_blocks.specs.declared.tile.Cell.{Cell}
use Rattle.segment_blocks.specs.declared.tile.Tile.{Tile}
use Rattle.segment_blocks.specs.declared.tile.Tile.TheVariants.{Hole, Seg}
use Rattle.segment_blocks.specs.Tiling.{cell_length, shape_of, spelled_hole, spelled_cell, spelling, spelled, Fits, IsCell, IsHole, AreTilesFrom, AreTiles, IsTiling, StandAround}
use Rattle.free_space.specs.declared.change.Change.{Change}
use Rattle.free_space.specs.declared.change.Change.TheVariants.{Pointers, Twin, Child, Content, Name, Copied}
use Rattle.segment_blocks.specs.TilesOf.{cell_among}
use Rattle.segment_blocks.proofs.Among.{among_found}
use Rattle.free_space.specs.Changes.{changed, Rewritten}
use Rattle.free_space.specs.Clearing.{ends_in_hole}
use Rattle.free_space.proofs.Runs.{length-hole, length-cell, length-spelled, behind, in_place, split_place, whole_length}

-- the tiles from a place on
pub from_place : (shapes : List Shape) (block : List ℕ) (tiles : List Tile) (place : ℕ) (tile : Tile) → IsTiling shapes block tiles → slice_get tiles place ≡ Some tile
    → AreTilesFrom shapes (16 + length (spelled (take place tiles))) (ends_in_hole false (take place tiles)) (tile ∷ drop (place + 1) tiles)
from_place shapes block tiles place tile t is =
    behind shapes 16 false (take place tiles) (tile ∷ drop (place + 1) tiles) (subst (AreTilesFrom shapes 16 false) (split_place tiles place tile is) t.tiled)

parts_length : (tiles : List Tile) (place : ℕ) (tile : Tile) → slice_get tiles place ≡ Some tile
    → length (spelled tiles) ≡ length (spelled (take place tiles)) + (length (spelling tile) + length (spelled (drop (place + 1) tiles)))
parts_length tiles place tile is =
    ap (λ (l : List Tile). length (spelled l)) (split_place tiles place tile is)
    ∙ length-spelled (take place tiles) (tile ∷ drop (place + 1) tiles)
    ∙ ap (λ (n : ℕ). length (spelled (take place tiles)) + n) (length-append (spelling tile) (spelled (drop (place + 1) tiles)))

pub record IsInside (at len : ℕ) : Type 0 where
  pub body : 16 ≤ at
  pub room : at + len ≤ 4096

inside : (at len before size rest : ℕ) → at ≡ 16 + before → size ≡ len → before + (size + rest) ≡ 4080 → IsInside at len
inside at len before size rest begins same all = record { body = omega (arith, begins); room = omega (arith, begins, same, all) }

pub hole_inside : (shapes : List Shape) (block : List ℕ) (tiles : List Tile) (place at room : ℕ) → IsTiling shapes block tiles → length block ≡ 4096 → slice_get tiles place ≡ Some (Hole at room)
    → IsInside at room × IsHole room
hole_inside shapes block tiles place at room t long is =
    let there = from_place shapes block tiles place (Hole at room) t is in (
      inside at room (length (spelled (take place tiles))) (length (spelled_hole room)) (length (spelled (drop (place + 1) tiles))) there.0.0 (length-hole room there.0.2.least)
          (sym (parts_length tiles place (Hole at room) is) ∙ whole_length shapes block tiles t long),
      there.0.2,
    )

pub cell_inside : (shapes : List Shape) (block : List ℕ) (tiles : List Tile) (place at : ℕ) (cell : Cell) → IsTiling shapes block tiles → length block ≡ 4096 → slice_get tiles place ≡ Some (Seg at cell)
    → IsInside at (cell_length (shape_of cell)) × IsCell shapes cell
cell_inside shapes block tiles place at cell t long is =
    let there = from_place shapes block tiles place (Seg at cell) t is in (
      inside at (cell_length (shape_of cell)) (length (spelled (take place tiles))) (length (spelled_cell cell)) (length (spelled (drop (place + 1) tiles))) there.0.0 (length-cell cell)
          (sym (parts_length tiles place (Seg at cell) is) ∙ whole_length shapes block tiles t long),
      there.0.1,
    )

-- the shape of a cell's type
pub shape_at : (shapes : List Shape) (cell : Cell) (code : ℕ) (none : Shape) → IsCell shapes cell → code ≡ cell.code → (code - 1 < length shapes) × (get_or shapes (code - 1) none ≡ shape_of cell)
shape_at shapes cell code none is same =
    let typed : slice_get shapes (code - 1) ≡ Some (shape_of cell) = ap (λ (n : ℕ). slice_get shapes (n - 1)) same ∙ is.typed in
    (slice_get_within shapes (code - 1) (shape_of cell) typed, get_or_from_slice_get shapes (code - 1) (shape_of cell) none typed)

pub changed_code : (change : Change) (cell : Cell) → (changed change cell).code ≡ cell.code
changed_code (Pointers twin children) cell = refl
changed_code (Twin twin) cell = refl
changed_code (Child place to) cell = refl
changed_code (Content content) cell = refl
changed_code (Name name) cell = refl
changed_code Copied cell = refl

pub still_cell : (shapes : List Shape) (cell other : Cell) → IsCell shapes cell → shape_of other ≡ shape_of cell → other.code ≡ cell.code → Fits other → IsCell shapes other
still_cell shapes cell other is same code fits = record {
  coded = subst (λ (n : ℕ). 0 < n) (sym code) is.coded;
  typed = ap (λ (n : ℕ). slice_get shapes (n - 1)) code ∙ is.typed ∙ ap (λ (s : Shape). Some s) (sym same);
  fits = fits;
}

pub rewritten_tiles : (shapes : List Shape) (old new : List ℕ) (tiles : List Tile) (place at : ℕ) (cell other : Cell) (shape : Shape) → IsTiling shapes old tiles → slice_get tiles place ≡ Some (Seg at cell)
    → shape ≡ shape_of cell → shape_of other ≡ shape_of cell → other.code ≡ cell.code → Fits other
    → ((before run after : List Tile) → IsTiling shapes old (before ++ (run ++ after)) → StandAround old (16 + length (spelled before)) (16 + length (spelled before) + length (spelled run)) before after)
    → ((before after : List Tile) → AreTiles shapes (before ++ Seg at other ∷ after) → StandAround old at (at + cell_length shape) before after → IsTiling shapes new (before ++ Seg at other ∷ after))
    → IsTiling shapes new (take place tiles ++ Seg at other ∷ drop (place + 1) tiles)
rewritten_tiles shapes old new tiles place at cell other shape t is typed same code fits opened tiled =
    let before : List Tile = take place tiles in
    let after : List Tile = drop (place + 1) tiles in
    let split : IsTiling shapes old (before ++ Seg at cell ∷ after) = subst (IsTiling shapes old) (split_place tiles place (Seg at cell) is) t in
    let there = from_place shapes old tiles place (Seg at cell) t is in
    let begins : 16 + length (spelled before) ≡ at = sym there.0.0 in
    let size : length (spelled (Seg at cell ∷ [])) ≡ cell_length shape = ap length (append-nil (spelled_cell cell)) ∙ length-cell cell ∙ ap cell_length (sym typed) in
    let ends : 16 + length (spelled before) + length (spelled (Seg at cell ∷ [])) ≡ at + cell_length shape = omega (arith, begins, size) in
    let around : StandAround old at (at + cell_length shape) before after =
    subst (λ (s : ℕ). StandAround old s (at + cell_length shape) before after) begins (subst (λ (e : ℕ). StandAround old (16 + length (spelled before)) e before after) ends (opened before (Seg at cell ∷ []) after split)) in
    let long : length (spelled_cell cell) ≡ length (spelled_cell other) = length-cell cell ∙ ap cell_length (sym same) ∙ sym (length-cell other) in
    let rest : AreTilesFrom shapes (16 + length (spelled before) + length (spelled_cell other)) false after = subst (λ (n : ℕ). AreTilesFrom shapes (16 + length (spelled before) + n) false after) long there.1 in
    tiled before after (in_place shapes 16 false before (Seg at cell ∷ after) (Seg at other ∷ after) split.tiled ((there.0.0, still_cell shapes cell other there.0.1 same code fits), rest)) around

-- what was read at an offset is the cell there, if one is
pub is_read : (o : Option Cell) (cell : Cell) → o ≢ None → ((x : Cell) → o ≡ Some x → Some cell ≡ Some x) → o ≡ Some cell
is_read None cell some f = absurd (some refl)
is_read (Some x) cell some f = sym (f x refl)

pub rewritten_there : (shapes : List Shape) (old new : List ℕ) (tiles : List Tile) (at : ℕ) (cell other : Cell) (shape : Shape) (change : Change) → IsTiling shapes old tiles → cell_among at tiles ≡ Some cell
    → shape ≡ shape_of cell → shape_of (changed change cell) ≡ shape_of cell → other ≡ changed change cell → Fits other
    → ((before run after : List Tile) → IsTiling shapes old (before ++ (run ++ after)) → StandAround old (16 + length (spelled before)) (16 + length (spelled before) + length (spelled run)) before after)
    → ((before after : List Tile) → AreTiles shapes (before ++ Seg at other ∷ after) → StandAround old at (at + cell_length shape) before after → IsTiling shapes new (before ++ Seg at other ∷ after))
    → Rewritten shapes tiles new at (changed change)
rewritten_there shapes old new tiles at cell other shape change t is typed same made fits opened tiled =
    let found = among_found at tiles cell is in
    let place : ℕ = found.0 in
    let done : IsTiling shapes new (take place tiles ++ Seg at other ∷ drop (place + 1) tiles) =
    rewritten_tiles shapes old new tiles place at cell other shape t found.1 typed (ap shape_of made ∙ same) (ap (λ (x : Cell). x.code) made ∙ changed_code change cell) fits opened tiled in (
      take place tiles,
      cell,
      drop (place + 1) tiles,
      split_place tiles place (Seg at cell) found.1,
      subst (λ (x : Cell). IsTiling shapes new (take place tiles ++ Seg at x ∷ drop (place + 1) tiles)) made done,
    )
