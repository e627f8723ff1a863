-- The numbers of a page's tiles, with one tile more at the end.
use Rattle.std.proofs.Common.{◌≡◌, ℕ, ◌+◌, ◌-◌, ◌^◌, ◌<◌, min, max, Bool, true, false, ◌||◌, List, [], ◌∷◌, ◌++◌, length, get_or, take, refl, sym, ap, ◌∙◌, arith}
use Rattle.std.proofs.lemmas.List.{take_more, take_all}
use Rattle.segment_blocks.specs.declared.tile.Cell.{Cell}
use Rattle.segment_blocks.specs.declared.tile.Tile.{Tile}
use Rattle.segment_blocks.specs.declared.tile.Tile.TheVariants.{Hole, Seg}
use Rattle.segment_blocks.specs.declared.space.Space.{Space}
use Rattle.segment_blocks.specs.Space.{hole_length, largest_hole, free_bytes, last_hole, is_cell, holds_cell, space_of}

pub largest-append : (xs ys : List Tile) → largest_hole (xs ++ ys) ≡ max (largest_hole xs) (largest_hole ys)
largest-append [] ys = omega arith
largest-append (x ∷ xs) ys = omega (arith, largest-append xs ys)

pub free-append : (xs ys : List Tile) → free_bytes (xs ++ ys) ≡ free_bytes xs + free_bytes ys
free-append [] ys = omega arith
free-append (x ∷ xs) ys = omega (arith, free-append xs ys)

pub last-push : (xs : List Tile) (t : Tile) → last_hole (xs ++ t ∷ []) ≡ hole_length t
last-push [] t = refl
last-push (x ∷ []) t = refl
last-push (x ∷ y ∷ xs) t = last-push (y ∷ xs) t

or_assoc : (a b c : Bool) → (a || (b || c)) ≡ ((a || b) || c)
or_assoc true b c = refl
or_assoc false b c = refl

pub cells-append : (xs ys : List Tile) → holds_cell (xs ++ ys) ≡ (holds_cell xs || holds_cell ys)
cells-append [] ys = refl
cells-append (x ∷ xs) ys = ap (λ (b : Bool). is_cell x || b) (cells-append xs ys) ∙ or_assoc (is_cell x) (holds_cell xs) (holds_cell ys)

abbrev made : ℕ → ℕ → ℕ → Bool → Space
made largest free last cells = record { largest = largest; free = free; last = last; cells = cells }

same_made : (l l' f f' e e' : ℕ) (c c' : Bool) → l ≡ l' → f ≡ f' → e ≡ e' → c ≡ c' → made l f e c ≡ made l' f' e' c'
same_made l l' f f' e e' c c' e0 e1 e2 e3 = cc

or_false : (b : Bool) → b ≡ (b || false)
or_false true = refl
or_false false = refl

or_true : (b : Bool) → true ≡ (b || true)
or_true true = refl
or_true false = refl

pub hole_more : (space : Space) (largest free : ℕ) (tiles : List Tile) (at len : ℕ) → largest ≡ max space.largest len → free ≡ min (space.free + len) (2 ^ 16 - 1)
    → space ≡ space_of tiles → made largest free len space.cells ≡ space_of (tiles ++ Hole at len ∷ [])
hole_more space largest free tiles at len most sum is =
    let all : List Tile = tiles ++ Hole at len ∷ [] in
    let was_most : space.largest ≡ largest_hole tiles = ap (λ (s : Space). s.largest) is in
    let was_free : space.free ≡ min (free_bytes tiles) (2 ^ 16 - 1) = ap (λ (s : Space). s.free) is in
    same_made largest (largest_hole all) free (min (free_bytes all) (2 ^ 16 - 1)) len (last_hole all) space.cells (holds_cell all)
    (omega (arith, largest-append tiles (Hole at len ∷ []), most, was_most))
    (omega (arith, free-append tiles (Hole at len ∷ []), sum, was_free))
    (sym (last-push tiles (Hole at len)))
    (ap (λ (s : Space). s.cells) is ∙ or_false (holds_cell tiles) ∙ sym (cells-append tiles (Hole at len ∷ [])))

pub cell_more : (space : Space) (tiles : List Tile) (at : ℕ) (cell : Cell) → space ≡ space_of tiles → made space.largest space.free 0 true ≡ space_of (tiles ++ Seg at cell ∷ [])
cell_more space tiles at cell is =
    let all : List Tile = tiles ++ Seg at cell ∷ [] in
    let was_most : space.largest ≡ largest_hole tiles = ap (λ (s : Space). s.largest) is in
    let was_free : space.free ≡ min (free_bytes tiles) (2 ^ 16 - 1) = ap (λ (s : Space). s.free) is in
    same_made space.largest (largest_hole all) space.free (min (free_bytes all) (2 ^ 16 - 1)) 0 (last_hole all) true (holds_cell all)
    (omega (arith, largest-append tiles (Seg at cell ∷ []), was_most))
    (omega (arith, free-append tiles (Seg at cell ∷ []), was_free))
    (sym (last-push tiles (Seg at cell)))
    (or_true (holds_cell tiles) ∙ sym (cells-append tiles (Seg at cell ∷ [])))

-- a tile that is too small leaves the largest hole too small
pub largest_more : (tiles : List Tile) (i len : ℕ) (tile : Tile) → i < length tiles → tile ≡ get_or tiles i tile → hole_length tile < len
    → largest_hole (take i tiles) < len → largest_hole (take (i + 1) tiles) < len
largest_more tiles i len tile within read small so_far =
    let more : take (i + 1) tiles ≡ take i tiles ++ tile ∷ [] = take_more tiles i tile within ∙ ap (λ (t : Tile). take i tiles ++ t ∷ []) (sym read) in
    omega (arith, ap largest_hole more, largest-append (take i tiles) (tile ∷ []), small, so_far)

pub last_is : (tiles : List Tile) (i : ℕ) (tile : Tile) → i + 1 ≡ length tiles → tile ≡ get_or tiles i tile → last_hole tiles ≡ hole_length tile
last_is tiles i tile last read =
    let more : take (i + 1) tiles ≡ take i tiles ++ tile ∷ [] = take_more tiles i tile (omega (arith, last)) ∙ ap (λ (t : Tile). take i tiles ++ t ∷ []) (sym read) in
    let all : take (i + 1) tiles ≡ tiles = take_all (i + 1) tiles (omega (arith, last)) in
    ap last_hole (sym all ∙ more) ∙ last-push (take i tiles) tile

last-behind : (xs : List Tile) (t : Tile) (ys : List Tile) → last_hole (xs ++ t ∷ ys) ≡ last_hole (t ∷ ys)
last-behind [] t ys = refl
last-behind (x ∷ []) t ys = refl
last-behind (x ∷ y ∷ xs) t ys = last-behind (y ∷ xs) t ys

last_cell : (at : ℕ) (c d : Cell) (ys : List Tile) → last_hole (Seg at c ∷ ys) ≡ last_hole (Seg at d ∷ ys)
last_cell at c d [] = refl
last_cell at c d (y ∷ ys) = refl

-- the content of a cell counts for nothing
pub same_space : (xs : List Tile) (at : ℕ) (c d : Cell) (ys : List Tile) → space_of (xs ++ Seg at c ∷ ys) ≡ space_of (xs ++ Seg at d ∷ ys)
same_space xs at c d ys =
    let one : List Tile = xs ++ Seg at c ∷ ys in
    let other : List Tile = xs ++ Seg at d ∷ ys in
    same_made (largest_hole one) (largest_hole other) (min (free_bytes one) (2 ^ 16 - 1)) (min (free_bytes other) (2 ^ 16 - 1)) (last_hole one) (last_hole other) (holds_cell one) (holds_cell other)
    (largest-append xs (Seg at c ∷ ys) ∙ sym (largest-append xs (Seg at d ∷ ys)))
    (ap (λ (n : ℕ). min n (2 ^ 16 - 1)) (free-append xs (Seg at c ∷ ys) ∙ sym (free-append xs (Seg at d ∷ ys))))
    (last-behind xs (Seg at c) ys ∙ last_cell at c d ys ∙ sym (last-behind xs (Seg at d) ys))
    (cells-append xs (Seg at c ∷ ys) ∙ sym (cells-append xs (Seg at d ∷ ys)))
