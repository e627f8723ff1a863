-- A cell in a hole: what the block's tiles are then.
use Rattle.std.proofs.Common.{◌≡◌, ℕ, zero, suc, ◌+◌, ◌-◌, ◌<◌, ◌≤◌, false, List, [], ◌∷◌, ◌++◌, length, take, drop, Some, refl, sym, ap, subst, ◌∙◌, append_assoc, arith}
use Rattle.std.specs.Prelude.{slice_get}
use Rattle.std.proofs.lemmas.List.{length-append, length-take-le, take-append-le, take-take, take_rest, append-nil}
use Rattle.hal_base.specs.declared.place.Shape.{Shape}
use Rattle.segment_blocks.specs.declared.tile.Cell.{Cell}
use Rattle.segment_blocks.specs.declared.tile.Tile.{Tile}
use Rattle.segment_blocks.specs.declared.tile.Tile.TheVariants.{Hole, Seg}
use Rattle.segment_blocks.specs.Tiling.{cell_length, shape_of, spelled_hole, spelled, Fits, IsCell, AreTilesFrom, AreTiles, IsTiling, StandAround, Writes}
use Rattle.segment_blocks.specs.Space.{left_over}
use Rattle.free_space.proofs.Runs.{length-hole, behind, in_place, filled_tiles}

-- what is written behind the head leaves the head
pub head_kept : (old new : List ℕ) (at : ℕ) (x : List ℕ) → 16 ≤ at → at ≤ length old → Writes old new at x → take 16 new ≡ take 16 old
head_kept old new at x body room written =
    let long : length (take at old) ≡ at = length-take-le at old room in
    let rest : List ℕ = drop (at + length x) old in
    ap (take 16) written
    ∙ take-append-le 16 (take at old ++ x) rest (omega (arith, length-append (take at old) x, long, body))
    ∙ take-append-le 16 (take at old) x (omega (arith, long, body))
    ∙ take-take 16 at old body

abbrev made : ℕ → ℕ → Shape
made children bytes = record { children = children; bytes = bytes }

same_shape : (a a' b b' : ℕ) → a ≡ a' → b ≡ b' → made a b ≡ made a' b'
same_shape a a' b b' e0 e1 = cc

pub shape_is : (shape : Shape) (cell : Cell) → length cell.children ≡ shape.children → length cell.content ≡ shape.bytes → shape ≡ shape_of cell
shape_is shape cell children content = same_shape shape.children (length cell.children) shape.bytes (length cell.content) (sym children) (sym content)

pub is_cell : (shapes : List Shape) (shape : Shape) (cell : Cell) → 0 < cell.code → slice_get shapes (cell.code - 1) ≡ Some shape → shape ≡ shape_of cell → Fits cell → IsCell shapes cell
is_cell shapes shape cell coded typed same fits = record { coded = coded; typed = typed ∙ ap (λ (s : Shape). Some s) same; fits = fits }

-- where a hole stands, and what stands around it
pub around_hole : (shapes : List Shape) (block : List ℕ) (before after : List Tile) (at room : ℕ) → IsTiling shapes block (before ++ Hole at room ∷ after)
    → StandAround block (16 + length (spelled before)) (16 + length (spelled before) + length (spelled (Hole at room ∷ []))) before after → StandAround block at (at + room) before after
around_hole shapes block before after at room t around =
    let next : AreTilesFrom shapes _ _ (Hole at room ∷ after) = behind shapes 16 false before (Hole at room ∷ after) t.tiled in
    let begins : 16 + length (spelled before) ≡ at = sym next.0.0 in
    let size : length (spelled (Hole at room ∷ [])) ≡ room = ap length (append-nil (spelled_hole room)) ∙ length-hole room next.0.2.least in
    let ends : 16 + length (spelled before) + length (spelled (Hole at room ∷ [])) ≡ at + room = omega (arith, begins, size) in
    subst (λ (s : ℕ). StandAround block s (at + room) before after) begins (subst (λ (e : ℕ). StandAround block (16 + length (spelled before)) e before after) ends around)

pub are_filled : (shapes : List Shape) (block : List ℕ) (before after : List Tile) (at room len : ℕ) (cell : Cell) → IsCell shapes cell → len ≡ cell_length (shape_of cell) → len ≤ room
    → IsTiling shapes block (before ++ Hole at room ∷ after) → AreTiles shapes (before ++ (Seg at cell ∷ left_over (at + len) (room - len) ++ after))
are_filled shapes block before after at room len cell is size fits t =
    subst (λ (n : ℕ). AreTiles shapes (before ++ (Seg at cell ∷ left_over (at + n) (room - n) ++ after))) (sym size)
    (in_place shapes 16 false before (Hole at room ∷ after) (Seg at cell ∷ left_over (at + cell_length (shape_of cell)) (room - cell_length (shape_of cell)) ++ after) t.tiled
    (filled_tiles shapes (16 + length (spelled before)) _ at room cell after is (omega (arith, size, fits)) (behind shapes 16 false before (Hole at room ∷ after) t.tiled)))

pub left_none : (at len : ℕ) → len ≡ 0 → left_over at len ≡ []
left_none at len is = ap (left_over at) is

pub left_some : (at len : ℕ) → 0 < len → left_over at len ≡ Hole at len ∷ []
left_some at zero some = absurd (omega (arith, some))
left_some at (suc len) some = refl

-- the cell fills the hole
pub fill_whole : (shapes : List Shape) (old new : List ℕ) (before after : List Tile) (at room len : ℕ) (cell : Cell) → IsCell shapes cell → len ≡ cell_length (shape_of cell) → len ≤ room → room ≤ len
    → IsTiling shapes old (before ++ Hole at room ∷ after) → StandAround old at (at + room) before after
    → (AreTiles shapes (before ++ Seg at cell ∷ after) → StandAround old at (at + len) before after → IsTiling shapes new (before ++ Seg at cell ∷ after))
    → IsTiling shapes new (before ++ (Seg at cell ∷ left_over (at + len) (room - len) ++ after))
fill_whole shapes old new before after at room len cell is size fits tight t around tiled =
    let none : left_over (at + len) (room - len) ≡ [] = left_none (at + len) (room - len) (omega (arith, tight)) in
    let are : AreTiles shapes (before ++ (Seg at cell ∷ left_over (at + len) (room - len) ++ after)) = are_filled shapes old before after at room len cell is size fits t in
    let ends : at + room ≡ at + len = omega (arith, fits, tight) in
    subst (λ (l : List Tile). IsTiling shapes new (before ++ (Seg at cell ∷ l ++ after))) (sym none)
    (tiled (subst (λ (l : List Tile). AreTiles shapes (before ++ (Seg at cell ∷ l ++ after))) none are) (subst (λ (e : ℕ). StandAround old at e before after) ends around))

-- the cell leaves a part of the hole
pub fill_part : (shapes : List Shape) (old mid new : List ℕ) (before after : List Tile) (at room len : ℕ) (cell : Cell) → IsCell shapes cell → len ≡ cell_length (shape_of cell) → len < room
    → IsTiling shapes old (before ++ Hole at room ∷ after)
    → StandAround mid (at + len) (at + room) (before ++ Seg at cell ∷ []) after
    → (AreTiles shapes ((before ++ Seg at cell ∷ []) ++ Hole (at + len) (room - len) ∷ after) → StandAround mid (at + len) (at + len + (room - len)) (before ++ Seg at cell ∷ []) after
    → IsTiling shapes new ((before ++ Seg at cell ∷ []) ++ Hole (at + len) (room - len) ∷ after))
    → IsTiling shapes new (before ++ (Seg at cell ∷ left_over (at + len) (room - len) ++ after))
fill_part shapes old mid new before after at room len cell is size part t around tiled =
    let some : left_over (at + len) (room - len) ≡ Hole (at + len) (room - len) ∷ [] = left_some (at + len) (room - len) (omega (arith, part)) in
    let are : AreTiles shapes (before ++ (Seg at cell ∷ left_over (at + len) (room - len) ++ after)) = are_filled shapes old before after at room len cell is size (omega (arith, part)) t in
    let ends : at + room ≡ at + len + (room - len) = omega (arith, part) in
    let grouped : (before ++ Seg at cell ∷ []) ++ Hole (at + len) (room - len) ∷ after ≡ before ++ (Seg at cell ∷ Hole (at + len) (room - len) ∷ after) = append_assoc before (Seg at cell ∷ []) (Hole (at + len) (room - len) ∷ after) in
    let these : AreTiles shapes (before ++ (Seg at cell ∷ Hole (at + len) (room - len) ∷ after)) = subst (λ (l : List Tile). AreTiles shapes (before ++ (Seg at cell ∷ l ++ after))) some are in
    subst (λ (l : List Tile). IsTiling shapes new (before ++ (Seg at cell ∷ l ++ after))) (sym some)
    (subst (IsTiling shapes new) grouped
    (tiled (subst (AreTiles shapes) (sym grouped) these) (subst (λ (e : ℕ). StandAround mid (at + len) e (before ++ Seg at cell ∷ []) after) ends around)))

pub regroup : (a : List Tile) (s : Tile) (l d : List Tile) (i : ℕ) → ((a ++ s ∷ []) ++ l) ++ take (length d - i) (drop i d) ≡ a ++ (s ∷ l ++ drop i d)
regroup a s l d i = ap (λ (x : List Tile). ((a ++ s ∷ []) ++ l) ++ x) (take_rest d i) ∙ append_assoc (a ++ s ∷ []) l (drop i d) ∙ append_assoc a (s ∷ []) (l ++ drop i d)
