-- A cell becomes a hole with the holes that touch it: what the tiles are then.
use Rattle.std.proofs.Common.{◌≡◌, ℕ, ◌+◌, ◌-◌, ◌%◌, ◌^◌, ◌<◌, ◌≤◌, Bool, true, false, List, [], ◌∷◌, ◌++◌, length, take, drop, Some, refl, sym, ap, subst, ◌∙◌, append_assoc, arith}
use Rattle.std.specs.Prelude.{slice_get}
use Rattle.std.proofs.lemmas.List.{length-append, append-nil, take_at, take_rest}
use Rattle.hal_base.specs.declared.place.Shape.{Shape}
use Rattle.segment_blocks.specs.declared.tile.Cell.{Cell}
use Rattle.segment_blocks.specs.declared.tile.Tile.{Tile}
use Rattle.segment_blocks.specs.declared.tile.Tile.TheVariants.{Hole, Seg}
use Rattle.segment_blocks.specs.Tiling.{cell_length, shape_of, spelled_hole, spelled_cell, spelling, spelled, AreTilesFrom, AreTiles, IsTiling, StandAround, is_hole}
use Rattle.segment_blocks.specs.Space.{AreHoles}
use Rattle.free_space.specs.Clearing.{ends_in_hole, begins_in_hole, IsFront, IsBack, IsCleared}
use Rattle.free_space.proofs.Runs.{length-hole, length-cell, length-spelled, behind, in_place, split_place, whole_length}

ends-push : (after_hole : Bool) (tiles : List Tile) (tile : Tile) → ends_in_hole after_hole (tiles ++ tile ∷ []) ≡ is_hole tile
ends-push after_hole [] tile = refl
ends-push after_hole (first ∷ tiles) tile = ends-push (is_hole first) tiles tile

pub ends_in_cell : (tiles front : List Tile) (tile : Tile) (at : ℕ) (cell : Cell) → tiles ≡ front ++ tile ∷ [] → tile ≡ Seg at cell → IsFront tiles tiles
ends_in_cell tiles front tile at cell whole is = record {
  left = [];
  whole = sym (append-nil tiles);
  holes = refl;
  ends = λ none. ap (ends_in_hole false) whole ∙ ends-push false front tile ∙ ap is_hole is;
}

pub begins_with_hole : (tiles back : List Tile) (tile : Tile) (at len : ℕ) → tiles ≡ tile ∷ back → tile ≡ Hole at len → IsBack tiles back
begins_with_hole tiles back tile at len whole is = record {
  right = Hole at len ∷ [];
  whole = whole ∙ ap (λ (t : Tile). t ∷ back) is;
  holes = refl;
  begins = λ none. cc;
}

-- ---- the parts of the tiles

pub record Parts (tiles : List Tile) (offset : ℕ) (cell : Cell) (front back : List Tile) : Type 0 where
  pub left : List Tile
  pub right : List Tile
  pub was : tiles ≡ front ++ ((left ++ Seg offset cell ∷ right) ++ back)
  pub left_holes : AreHoles left
  pub right_holes : AreHoles right
  pub ends : left ≡ [] → ends_in_hole false front ≡ false
  pub begins : right ≡ [] → begins_in_hole back ≡ false

regroup : (a l : List Tile) (s : Tile) (r b : List Tile) → (a ++ l) ++ s ∷ (r ++ b) ≡ a ++ ((l ++ s ∷ r) ++ b)
regroup a l s r b = append_assoc a l (s ∷ (r ++ b)) ∙ ap (λ (x : List Tile). a ++ x) (sym (append_assoc l (s ∷ r) b))

pub parts_of : (tiles : List Tile) (place offset : ℕ) (cell : Cell) (front back : List Tile) → slice_get tiles place ≡ Some (Seg offset cell)
    → IsFront (take place tiles) front → IsBack (take (length tiles - (place + 1)) (drop (place + 1) tiles)) back → Parts tiles offset cell front back
parts_of tiles place offset cell front back is fr bk = record {
  left = fr.left;
  right = bk.right;
  was = split_place tiles place (Seg offset cell) is
      ∙ ap (λ (x : List Tile). x ++ Seg offset cell ∷ drop (place + 1) tiles) fr.whole
      ∙ ap (λ (x : List Tile). (front ++ fr.left) ++ Seg offset cell ∷ x) (sym (take_rest tiles (place + 1)) ∙ bk.whole)
      ∙ regroup front fr.left (Seg offset cell) bk.right back;
  left_holes = fr.holes;
  right_holes = bk.holes;
  ends = fr.ends;
  begins = bk.begins;
}

pub front_at : (tiles : List Tile) (offset : ℕ) (cell : Cell) (front back : List Tile) → Parts tiles offset cell front back → take (length front) tiles ≡ front
front_at tiles offset cell front back p = ap (take (length front)) p.was ∙ take_at front ((p.left ++ Seg offset cell ∷ p.right) ++ back) (length front) refl

pub run_at : (tiles : List Tile) (offset : ℕ) (cell : Cell) (front back : List Tile) → (p : Parts tiles offset cell front back) → take (length tiles - length back) tiles ≡ front ++ (p.left ++ Seg offset cell ∷ p.right)
run_at tiles offset cell front back p =
    let run : List Tile = p.left ++ Seg offset cell ∷ p.right in
    let whole : tiles ≡ (front ++ run) ++ back = p.was ∙ sym (append_assoc front run back) in
    let many : length (front ++ run) ≡ length tiles - length back = omega (arith, ap length whole, length-append (front ++ run) back) in
    ap (take (length tiles - length back)) whole ∙ take_at (front ++ run) back (length tiles - length back) many

pub fewer : (tiles : List Tile) (offset : ℕ) (cell : Cell) (front back : List Tile) → Parts tiles offset cell front back → (length front ≤ length tiles) × (length back ≤ length tiles)
fewer tiles offset cell front back p =
    let run : List Tile = p.left ++ Seg offset cell ∷ p.right in
    let whole : length tiles ≡ length front + (length run + length back) = ap length p.was ∙ length-append front (run ++ back) ∙ ap (λ (n : ℕ). length front + n) (length-append run back) in
    (omega (arith, whole), omega (arith, whole))

-- ---- lengths

front_of : (shapes : List Shape) (start : ℕ) (after_hole : Bool) (xs ys : List Tile) → AreTilesFrom shapes start after_hole (xs ++ ys) → AreTilesFrom shapes start after_hole xs
front_of shapes start after_hole [] ys are = tt
front_of shapes start after_hole (x ∷ xs) ys are = (are.0, front_of shapes (start + length (spelling x)) (is_hole x) xs ys are.1)

fours : (shapes : List Shape) (start : ℕ) (after_hole : Bool) (tiles : List Tile) → AreTilesFrom shapes start after_hole tiles → length (spelled tiles) % 4 ≡ 0
fours shapes start after_hole [] are = refl
fours shapes start after_hole (Hole at len ∷ tiles) are =
    let rest : length (spelled tiles) % 4 ≡ 0 = fours shapes (start + length (spelled_hole len)) true tiles are.1 in
    let whole : len % 4 ≡ 0 = are.0.2.whole in
    let size : length (spelled_hole len) ≡ len = length-hole len are.0.2.least in
    let both : length (spelled_hole len ++ spelled tiles) ≡ length (spelled_hole len) + length (spelled tiles) = length-append (spelled_hole len) (spelled tiles) in
    omega arith
fours shapes start after_hole (Seg at cell ∷ tiles) are =
    let rest : length (spelled tiles) % 4 ≡ 0 = fours shapes (start + length (spelled_cell cell)) false tiles are.1 in
    let whole : cell_length (shape_of cell) % 4 ≡ 0 = omega arith in
    let size : length (spelled_cell cell) ≡ cell_length (shape_of cell) = length-cell cell in
    let both : length (spelled_cell cell ++ spelled tiles) ≡ length (spelled_cell cell) + length (spelled tiles) = length-append (spelled_cell cell) (spelled tiles) in
    omega arith

pub record Sizes (at end front run : ℕ) : Type 0 where
  pub begins : at ≡ 16 + front
  pub size : end - at ≡ run
  pub forward : at ≤ end
  pub room : end ≤ 4096
  pub least : 4 ≤ end - at
  pub whole : (end - at) % 4 ≡ 0

sized : (at end front run back : ℕ) → at ≡ 16 + front → end ≡ 16 + (front + run) → front + (run + back) ≡ 4080 → 4 ≤ run → run % 4 ≡ 0 → Sizes at end front run
sized at end front run back e0 e1 all least whole =
    let size : end - at ≡ run = omega (arith, e0, e1) in
    record { begins = e0; size = size; forward = omega (arith, e0, e1); room = omega (arith, e1, all); least = omega (arith, size, least); whole = ap (λ (n : ℕ). n % 4) size ∙ whole }

some_cell : (cell : Cell) (left right : List Tile) (offset : ℕ) → 4 ≤ length (spelled (left ++ Seg offset cell ∷ right))
some_cell cell left right offset =
    let least : 4 ≤ cell_length (shape_of cell) = omega arith in
    let size : length (spelled_cell cell) ≡ cell_length (shape_of cell) = length-cell cell in
    let both : length (spelled_cell cell ++ spelled right) ≡ length (spelled_cell cell) + length (spelled right) = length-append (spelled_cell cell) (spelled right) in
    let all : length (spelled (left ++ Seg offset cell ∷ right)) ≡ length (spelled left) + length (spelled_cell cell ++ spelled right) = length-spelled left (Seg offset cell ∷ right) in
    omega arith

pub sizes_of : (shapes : List Shape) (block : List ℕ) (tiles : List Tile) (offset : ℕ) (cell : Cell) (front back : List Tile) (at end : ℕ) → (p : Parts tiles offset cell front back)
    → IsTiling shapes block tiles → length block ≡ 4096
    → at ≡ 16 + length (spelled (take (length front) tiles)) → end ≡ 16 + length (spelled (take (length tiles - length back) tiles))
    → Sizes at end (length (spelled front)) (length (spelled (p.left ++ Seg offset cell ∷ p.right)))
sizes_of shapes block tiles offset cell front back at end p t long begins ends =
    let run : List Tile = p.left ++ Seg offset cell ∷ p.right in
    let all : length (spelled tiles) ≡ 4080 = whole_length shapes block tiles t long in
    let split : length (spelled tiles) ≡ length (spelled front) + (length (spelled run) + length (spelled back)) =
    ap (λ (l : List Tile). length (spelled l)) p.was ∙ length-spelled front (run ++ back) ∙ ap (λ (n : ℕ). length (spelled front) + n) (length-spelled run back) in
    let are : AreTilesFrom shapes 16 false (front ++ (run ++ back)) = subst (AreTilesFrom shapes 16 false) p.was t.tiled in
    let middle : AreTilesFrom shapes (16 + length (spelled front)) (ends_in_hole false front) run = front_of shapes _ _ run back (behind shapes 16 false front (run ++ back) are) in
    sized at end (length (spelled front)) (length (spelled run)) (length (spelled back))
    (begins ∙ ap (λ (l : List Tile). 16 + length (spelled l)) (front_at tiles offset cell front back p))
    (ends ∙ ap (λ (l : List Tile). 16 + length (spelled l)) (run_at tiles offset cell front back p) ∙ ap (λ (n : ℕ). 16 + n) (length-spelled front run))
    (sym split ∙ all)
    (some_cell cell p.left p.right offset)
    (fours shapes (16 + length (spelled front)) (ends_in_hole false front) run middle)

-- ---- the tiles then

open_front : (shapes : List Shape) (start : ℕ) (after_hole : Bool) (front left rest : List Tile) → AreTilesFrom shapes start after_hole (front ++ (left ++ rest)) → AreHoles left
    → (left ≡ [] → ends_in_hole after_hole front ≡ false) → ends_in_hole after_hole front ≡ false
open_front shapes start after_hole front [] rest are holes ends = ends refl
open_front shapes start after_hole front (Hole at len ∷ left) rest are holes ends = (behind shapes start after_hole front (Hole at len ∷ (left ++ rest)) are).0.1
open_front shapes start after_hole front (Seg at cell ∷ left) rest are holes ends = absurd (let wrong : true ≡ false = holes in cc)

no_hole_first : (shapes : List Shape) (start : ℕ) (after_hole : Bool) (back : List Tile) → AreTilesFrom shapes start after_hole back → begins_in_hole back ≡ false → AreTilesFrom shapes start true back
no_hole_first shapes start after_hole [] are none = tt
no_hole_first shapes start after_hole (Hole at len ∷ back) are none = absurd (let wrong : true ≡ false = none in cc)
no_hole_first shapes start after_hole (Seg at cell ∷ back) are none = are

none_past : (start : ℕ) → start ≡ start + 0
none_past start = omega arith

past_holes : (shapes : List Shape) (start : ℕ) (right back : List Tile) → AreTilesFrom shapes start true (right ++ back) → AreHoles right → AreTilesFrom shapes (start + length (spelled right)) true back
past_holes shapes start [] back are holes = subst (λ (s : ℕ). AreTilesFrom shapes s true back) (none_past start) are
past_holes shapes start (Hole at len ∷ right) back are holes = absurd (let wrong : true ≡ false = are.0.1 in cc)
past_holes shapes start (Seg at cell ∷ right) back are holes = absurd (let wrong : true ≡ false = holes in cc)

open_back : (shapes : List Shape) (start : ℕ) (after_hole : Bool) (right back : List Tile) → AreTilesFrom shapes start after_hole (right ++ back) → AreHoles right
    → (right ≡ [] → begins_in_hole back ≡ false) → AreTilesFrom shapes (start + length (spelled right)) true back
open_back shapes start after_hole [] back are holes begins = subst (λ (s : ℕ). AreTilesFrom shapes s true back) (none_past start) (no_hole_first shapes start after_hole back are (begins refl))
open_back shapes start after_hole (Hole at len ∷ right) back are holes begins =
    let past : (start + length (spelled_hole len)) + length (spelled right) ≡ start + length (spelled (Hole at len ∷ right)) = omega (arith, length-append (spelled_hole len) (spelled right)) in
    subst (λ (s : ℕ). AreTilesFrom shapes s true back) past (past_holes shapes (start + length (spelled_hole len)) right back are.1 holes)
open_back shapes start after_hole (Seg at cell ∷ right) back are holes begins = absurd (let wrong : true ≡ false = holes in cc)

pub are_cleared : (shapes : List Shape) (block : List ℕ) (tiles : List Tile) (offset : ℕ) (cell : Cell) (front back : List Tile) (at end : ℕ) → (p : Parts tiles offset cell front back)
    → IsTiling shapes block tiles → Sizes at end (length (spelled front)) (length (spelled (p.left ++ Seg offset cell ∷ p.right)))
    → AreTiles shapes (front ++ Hole at (end - at) ∷ back)
are_cleared shapes block tiles offset cell front back at end p t sizes =
    let run : List Tile = p.left ++ Seg offset cell ∷ p.right in
    let start : ℕ = 16 + length (spelled front) in
    let are : AreTilesFrom shapes 16 false (front ++ (run ++ back)) = subst (AreTilesFrom shapes 16 false) p.was t.tiled in
    let left_first : AreTilesFrom shapes 16 false (front ++ (p.left ++ (Seg offset cell ∷ p.right ++ back))) = subst (λ (x : List Tile). AreTilesFrom shapes 16 false (front ++ x)) (append_assoc p.left (Seg offset cell ∷ p.right) back) are in
    let cell_first : AreTilesFrom shapes 16 false ((front ++ p.left) ++ Seg offset cell ∷ (p.right ++ back)) = subst (AreTilesFrom shapes 16 false) (sym (regroup front p.left (Seg offset cell) p.right back)) are in
    let ends : ends_in_hole false front ≡ false = open_front shapes 16 false front p.left (Seg offset cell ∷ p.right ++ back) left_first p.left_holes p.ends in
    let next : AreTilesFrom shapes (16 + length (spelled (front ++ p.left))) (ends_in_hole false (front ++ p.left)) (Seg offset cell ∷ (p.right ++ back)) = behind shapes 16 false (front ++ p.left) (Seg offset cell ∷ (p.right ++ back)) cell_first in
    let back_there : AreTilesFrom shapes ((16 + length (spelled (front ++ p.left)) + length (spelled_cell cell)) + length (spelled p.right)) true back =
    open_back shapes (16 + length (spelled (front ++ p.left)) + length (spelled_cell cell)) false p.right back next.1 p.right_holes p.begins in
    let both : length (spelled (Seg offset cell ∷ p.right)) ≡ length (spelled_cell cell) + length (spelled p.right) = length-append (spelled_cell cell) (spelled p.right) in
    let size : length (spelled run) ≡ length (spelled p.left) + length (spelled (Seg offset cell ∷ p.right)) = length-spelled p.left (Seg offset cell ∷ p.right) in
    let hole : length (spelled_hole (end - at)) ≡ end - at = length-hole (end - at) sizes.least in
    let same : (16 + length (spelled (front ++ p.left)) + length (spelled_cell cell)) + length (spelled p.right) ≡ start + length (spelled_hole (end - at)) =
    omega (arith, length-spelled front p.left, both, size, hole, sizes.size) in
    let short : end - at < 2 ^ 16 = omega (arith, sizes.room) in
    in_place shapes 16 false front (run ++ back) (Hole at (end - at) ∷ back) are
    ((sizes.begins, ends, record { least = sizes.least; whole = sizes.whole; fits = short }), subst (λ (s : ℕ). AreTilesFrom shapes s true back) same back_there)

-- where the run begins and ends, of the tiling that the block is known to have
pub run_sizes : (shapes : List Shape) (block : List ℕ) (tiles : List Tile) (place offset : ℕ) (cell : Cell) (front back : List Tile) (at end : ℕ) → slice_get tiles place ≡ Some (Seg offset cell)
    → IsFront (take place tiles) front → IsBack (take (length tiles - (place + 1)) (drop (place + 1) tiles)) back
    → IsTiling shapes block tiles → length block ≡ 4096
    → at ≡ 16 + length (spelled (take (length front) tiles)) → end ≡ 16 + length (spelled (take (length tiles - length back) tiles))
    → (run : ℕ) × Sizes at end (length (spelled front)) run
run_sizes shapes block tiles place offset cell front back at end is fr bk t long begins ends =
    let p : Parts tiles offset cell front back = parts_of tiles place offset cell front back is fr bk in
    (length (spelled (p.left ++ Seg offset cell ∷ p.right)), sizes_of shapes block tiles offset cell front back at end p t long begins ends)

pub cleared_tiles : (shapes : List Shape) (block new : List ℕ) (tiles : List Tile) (place offset : ℕ) (cell : Cell) (front back : List Tile) (at end : ℕ) → slice_get tiles place ≡ Some (Seg offset cell)
    → IsFront (take place tiles) front → IsBack (take (length tiles - (place + 1)) (drop (place + 1) tiles)) back
    → IsTiling shapes block tiles → length block ≡ 4096
    → at ≡ 16 + length (spelled (take (length front) tiles)) → end ≡ 16 + length (spelled (take (length tiles - length back) tiles))
    → ((before run after : List Tile) → IsTiling shapes block (before ++ (run ++ after)) → StandAround block (16 + length (spelled before)) (16 + length (spelled before) + length (spelled run)) before after)
    → (AreTiles shapes (front ++ Hole at (end - at) ∷ back) → StandAround block at (at + (end - at)) front back → IsTiling shapes new (front ++ Hole at (end - at) ∷ back))
    → IsCleared tiles offset cell (front ++ Hole at (end - at) ∷ back) × IsTiling shapes new (front ++ Hole at (end - at) ∷ back)
cleared_tiles shapes block new tiles place offset cell front back at end is fr bk t long begins ends opened tiled =
    let p : Parts tiles offset cell front back = parts_of tiles place offset cell front back is fr bk in
    let run : List Tile = p.left ++ Seg offset cell ∷ p.right in
    let sizes : Sizes at end (length (spelled front)) (length (spelled run)) = sizes_of shapes block tiles offset cell front back at end p t long begins ends in
    let around : StandAround block (16 + length (spelled front)) (16 + length (spelled front) + length (spelled run)) front back = opened front run back (subst (IsTiling shapes block) p.was t) in
    let last : 16 + length (spelled front) + length (spelled run) ≡ at + (end - at) = omega (arith, sizes.begins, sizes.size) in
    let there : StandAround block at (at + (end - at)) front back =
    subst (λ (s : ℕ). StandAround block s (at + (end - at)) front back) (sym sizes.begins) (subst (λ (e : ℕ). StandAround block (16 + length (spelled front)) e front back) last around) in (
      record { before = front; left = p.left; right = p.right; after = back; at = at; len = end - at; was = p.was; left_holes = p.left_holes; right_holes = p.right_holes; is = refl },
      tiled (are_cleared shapes block tiles offset cell front back at end p t sizes) there,
    )

pub emptied : (a : List Tile) (s : Tile) (b : List Tile) → (a ++ s ∷ []) ++ b ≡ a ++ s ∷ b
emptied a s b = append_assoc a (s ∷ []) b
