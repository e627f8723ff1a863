-- Lists of tiles, seen before and behind a place.
use Rattle.std.proofs.Common.{◌≡◌, ℕ, zero, suc, ◌+◌, ◌-◌, ◌%◌, ◌^◌, ◌<◌, ◌≤◌, Bool, true, false, List, [], ◌∷◌, ◌++◌, length, get_or, take, drop, Some, refl, sym, ap, subst, ◌∙◌, arith}
use Rattle.std.specs.Prelude.{slice_get}
use Rattle.std.proofs.lemmas.List.{length-append, length-drop, take-append-drop, drop_more, take_all}
use Rattle.std.proofs.lemmas.Option.{slice_get_within, get_or_from_slice_get}
use Rattle.hal_base.specs.declared.place.Shape.{Shape}
use Rattle.segment_blocks.specs.declared.tile.Cell.{Cell}
use Rattle.segment_blocks.specs.declared.tile.Tile.{Tile}
use Rattle.segment_blocks.specs.declared.tile.Tile.TheVariants.{Hole, Seg}
use Rattle.segment_blocks.specs.Tiling.{cell_length, shape_of, spelled_hole, spelled_cell, spelling, spelled, IsCell, IsHole, AreTilesFrom, IsTiling, is_hole}
use Rattle.segment_blocks.proofs.Holes.{length-spelled_hole}
use Rattle.segment_blocks.proofs.Cells.{length-spelled_cell}
use Rattle.segment_blocks.proofs.Tilings.{spelled-append}
use Rattle.segment_blocks.specs.Space.{left_over}
use Rattle.free_space.specs.Gaps.{tile_offset}
use Rattle.free_space.specs.Clearing.{ends_in_hole}

pub length-hole : (len : ℕ) → 4 ≤ len → length (spelled_hole len) ≡ len
length-hole = length-spelled_hole

pub length-cell : (cell : Cell) → length (spelled_cell cell) ≡ cell_length (shape_of cell)
length-cell = length-spelled_cell

pub length-spelled : (xs ys : List Tile) → length (spelled (xs ++ ys)) ≡ length (spelled xs) + length (spelled ys)
length-spelled xs ys = ap length (spelled-append xs ys) ∙ length-append (spelled xs) (spelled ys)

past : (start : ℕ) (first : Tile) (tiles : List Tile) → (start + length (spelling first)) + length (spelled tiles) ≡ start + length (spelled (first ∷ tiles))
past start first tiles = omega (arith, length-append (spelling first) (spelled tiles))

none_past : (start : ℕ) → start ≡ start + 0
none_past start = omega arith

-- tiles behind others, and other tiles in their place
pub behind : (shapes : List Shape) (start : ℕ) (after_hole : Bool) (before tiles : List Tile) → AreTilesFrom shapes start after_hole (before ++ tiles)
    → AreTilesFrom shapes (start + length (spelled before)) (ends_in_hole after_hole before) tiles
behind shapes start after_hole [] tiles are = subst (λ (s : ℕ). AreTilesFrom shapes s after_hole tiles) (none_past start) are
behind shapes start after_hole (t ∷ before) tiles are =
    subst (λ (s : ℕ). AreTilesFrom shapes s (ends_in_hole (is_hole t) before) tiles) (past start t before)
    (behind shapes (start + length (spelling t)) (is_hole t) before tiles are.1)

pub in_place : (shapes : List Shape) (start : ℕ) (after_hole : Bool) (before tiles others : List Tile) → AreTilesFrom shapes start after_hole (before ++ tiles)
    → AreTilesFrom shapes (start + length (spelled before)) (ends_in_hole after_hole before) others → AreTilesFrom shapes start after_hole (before ++ others)
in_place shapes start after_hole [] tiles others are next = subst (λ (s : ℕ). AreTilesFrom shapes s after_hole others) (sym (none_past start)) next
in_place shapes start after_hole (t ∷ before) tiles others are next = (
  are.0,
  in_place shapes (start + length (spelling t)) (is_hole t) before tiles others are.1
      (subst (λ (s : ℕ). AreTilesFrom shapes s (ends_in_hole (is_hole t) before) others) (sym (past start t before)) next),
)

-- what may stand behind a hole may stand anywhere
pub anywhere : (shapes : List Shape) (start : ℕ) (after_hole : Bool) (tiles : List Tile) → AreTilesFrom shapes start true tiles → AreTilesFrom shapes start after_hole tiles
anywhere shapes start after_hole [] are = tt
anywhere shapes start after_hole (Hole at len ∷ tiles) are = absurd (let no : true ≡ false = are.0.1 in cc)
anywhere shapes start after_hole (Seg at cell ∷ tiles) are = are

-- ---- a cell in a hole

filled_rest : (shapes : List Shape) (at len room rest : ℕ) (after : List Tile) → IsHole room → len % 4 ≡ 0 → len ≤ room → rest ≡ room - len
    → AreTilesFrom shapes (at + room) true after → AreTilesFrom shapes (at + len) false (left_over (at + len) rest ++ after)
filled_rest shapes at len room zero after hole fours fits is are =
    let same : at + room ≡ at + len = omega (arith, is, fits) in
    anywhere shapes (at + len) false after (subst (λ (s : ℕ). AreTilesFrom shapes s true after) same are)
filled_rest shapes at len room (suc rest) after hole fours fits is are =
    let least : 4 ≤ suc rest = omega (arith, is, fits, fours, hole.whole) in
    let whole : suc rest % 4 ≡ 0 = omega (arith, is, fits, fours, hole.whole) in
    let short : suc rest < 2 ^ 16 = omega (arith, is, hole.fits) in
    let same : at + room ≡ (at + len) + length (spelled_hole (suc rest)) = omega (arith, length-hole (suc rest) least, is, fits) in
    ((refl, refl, record { least = least; whole = whole; fits = short }), subst (λ (s : ℕ). AreTilesFrom shapes s true after) same are)

pub filled_tiles : (shapes : List Shape) (start : ℕ) (after_hole : Bool) (at room : ℕ) (cell : Cell) (after : List Tile) → IsCell shapes cell → cell_length (shape_of cell) ≤ room
    → AreTilesFrom shapes start after_hole (Hole at room ∷ after)
    → AreTilesFrom shapes start after_hole (Seg at cell ∷ left_over (at + cell_length (shape_of cell)) (room - cell_length (shape_of cell)) ++ after)
filled_tiles shapes start after_hole at room cell after is fits are =
    let len : ℕ = cell_length (shape_of cell) in
    let fours : len % 4 ≡ 0 = omega arith in
    let begins : at ≡ start = are.0.0 in
    let past_hole : start + length (spelled_hole room) ≡ at + room = omega (arith, length-hole room are.0.2.least, begins) in
    let past_cell : at + len ≡ start + length (spelled_cell cell) = omega (arith, length-cell cell, begins) in
    let rest : AreTilesFrom shapes (at + len) false (left_over (at + len) (room - len) ++ after) =
    filled_rest shapes at len room (room - len) after are.0.2 fours fits refl (subst (λ (s : ℕ). AreTilesFrom shapes s true after) past_hole are.1) in
    ((begins, is), subst (λ (s : ℕ). AreTilesFrom shapes s false (left_over (at + len) (room - len) ++ after)) past_cell rest)

-- ---- a tile at a place

pub split_place : {X : Type 0} (xs : List X) (i : ℕ) (x : X) → slice_get xs i ≡ Some x → xs ≡ take i xs ++ x ∷ drop (i + 1) xs
split_place {X} xs i x is =
    let within : i < length xs = slice_get_within xs i x is in
    let read : get_or xs i x ≡ x = get_or_from_slice_get xs i x x is in
    sym (take-append-drop i xs) ∙ ap (λ (l : List X). take i xs ++ l) (drop_more xs i x within ∙ ap (λ (y : X). y ∷ drop (i + 1) xs) read)

-- the tiles of a page take all of its body
pub whole_length : (shapes : List Shape) (block : List ℕ) (tiles : List Tile) → IsTiling shapes block tiles → length block ≡ 4096 → length (spelled tiles) ≡ 4080
whole_length shapes block tiles t long = ap length (sym t.whole) ∙ length-drop 16 block ∙ omega (arith, long)

offset_at_front : (shapes : List Shape) (start : ℕ) (after_hole : Bool) (tile : Tile) (tiles : List Tile) → AreTilesFrom shapes start after_hole (tile ∷ tiles) → tile_offset tile ≡ start
offset_at_front shapes start after_hole (Hole at len) tiles are = are.0.0
offset_at_front shapes start after_hole (Seg at cell) tiles are = are.0.0

pub start_is : (shapes : List Shape) (block : List ℕ) (tiles : List Tile) (place : ℕ) (tile : Tile) → slice_get tiles place ≡ Some tile → IsTiling shapes block tiles → tile_offset tile ≡ 16 + length (spelled (take place tiles))
start_is shapes block tiles place tile is t =
    let are : AreTilesFrom shapes 16 false (take place tiles ++ tile ∷ drop (place + 1) tiles) = subst (AreTilesFrom shapes 16 false) (split_place tiles place tile is) t.tiled in
    offset_at_front shapes (16 + length (spelled (take place tiles))) (ends_in_hole false (take place tiles)) tile (drop (place + 1) tiles) (behind shapes 16 false (take place tiles) (tile ∷ drop (place + 1) tiles) are)

pub end_is : (shapes : List Shape) (block : List ℕ) (tiles : List Tile) (place : ℕ) → length tiles ≤ place → IsTiling shapes block tiles → length block ≡ 4096 → 4096 ≡ 16 + length (spelled (take place tiles))
end_is shapes block tiles place past_all t long =
    omega (arith, whole_length shapes block tiles t long, ap (λ (l : List Tile). length (spelled l)) (take_all place tiles past_all))
