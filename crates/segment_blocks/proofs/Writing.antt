-- What several writes, one behind the other, make of a block.
use Rattle.std.proofs.Common.{◌≡◌, ℕ, ◌+◌, ◌-◌, ◌*◌, ◌<◌, ◌≤◌, List, [], ◌∷◌, ◌++◌, length, take, drop, replicate, get_or, refl, sym, ap, subst, ◌∙◌, append_assoc, arith}
use Rattle.std.specs.List.{flat_map}
use Rattle.std.specs.Int.{w16, w32, to_be_bytes}
use Rattle.std.proofs.lemmas.List.{length-append, length-take-le, take_at, drop_at, drop-drop, drop-append-le, take_more, drop-take, take-append-drop, append-nil}
use Rattle.std.proofs.lemmas.List.Concat.{flat_map-append}
use Rattle.hal_base.specs.declared.place.Shape.{Shape}
use Rattle.segment_blocks.specs.declared.tile.Cell.{Cell}
use Rattle.segment_blocks.specs.declared.tile.Tile.{Tile}
use Rattle.segment_blocks.specs.Tiling.{AreTiles, IsTiling, StandAround, Writes, used_of, cell_length, shape_of, spelled_head, spelled_cell, spelled_hole, spelling, spelled}
use Rattle.segment_blocks.proofs.Addresses.{length-spelled_addresses}
use Rattle.segment_blocks.proofs.Cells.{used-le-length}
use Rattle.segment_blocks.proofs.Tilings.{spelled-append, spelled-push}

pub writes_then : (old mid new : List ℕ) (at pos : ℕ) (x y : List ℕ) → at + length x ≤ length old → pos ≡ at + length x → Writes old mid at x → Writes mid new pos y → Writes old new at (x ++ y)
writes_then old mid new at pos x y room place first second =
    let rest : List ℕ = drop (at + length x) old in
    let front : List ℕ = take at old ++ x in
    let size : length front ≡ pos = omega (arith, length-append (take at old) x, length-take-le at old (omega arith)) in
    let kept : take pos mid ≡ front = ap (take pos) first ∙ take_at front rest pos size in
    let left : drop pos mid ≡ rest = ap (drop pos) first ∙ drop_at front rest pos size in
    let sum : (at + length x) + length y ≡ at + length (x ++ y) = omega (arith, length-append x y) in
    let behind : drop (pos + length y) mid ≡ drop (at + length (x ++ y)) old =
    sym (drop-drop (length y) pos mid) ∙ ap (drop (length y)) left ∙ drop-drop (length y) (at + length x) old ∙ ap (λ (n : ℕ). drop n old) sum in
    second
    ∙ ap (λ (z : List ℕ). z ++ y ++ drop (pos + length y) mid) kept
    ∙ ap (λ (z : List ℕ). front ++ y ++ z) behind
    ∙ ap (λ (z : List ℕ). z ++ drop (at + length (x ++ y)) old) (append_assoc (take at old) x y)

-- one more address behind those that stand
pub writes_more : (old mid new : List ℕ) (at i : ℕ) (addresses : List ℕ) → at + 4 * length addresses ≤ length old → i < length addresses
    → Writes old mid at (flat_map (to_be_bytes w32) (take i addresses)) → Writes mid new (at + 4 * i) (to_be_bytes w32 (get_or addresses i 0))
    → Writes old new at (flat_map (to_be_bytes w32) (take (i + 1) addresses))
writes_more old mid new at i addresses room lt first second =
    let x : List ℕ = flat_map (to_be_bytes w32) (take i addresses) in
    let next : List ℕ = to_be_bytes w32 (get_or addresses i 0) in
    let few : length (take i addresses) ≡ i = length-take-le i addresses (omega arith) in
    let size : length x ≡ 4 * i = length-spelled_addresses (take i addresses) ∙ ap (λ (n : ℕ). 4 * n) few in
    let both : Writes old new at (x ++ next) = writes_then old mid new at (at + 4 * i) x next (omega (arith, size)) (omega (arith, size)) first second in
    let same : flat_map (to_be_bytes w32) (take (i + 1) addresses) ≡ x ++ next =
    ap (flat_map (to_be_bytes w32)) (take_more addresses i 0 lt) ∙ flat_map-append (to_be_bytes w32) (take i addresses) (get_or addresses i 0 ∷ []) ∙ ap (λ (z : List ℕ). x ++ z) (append-nil next) in
    subst (Writes old new at) (sym same) both

-- a tile that is written among the others
pub writes_tiling : (shapes : List Shape) (old new : List ℕ) (at end : ℕ) (tile : Tile) (before after : List Tile) → 16 ≤ at → at ≤ length old → end ≡ at + length (spelling tile) → Writes old new at (spelling tile)
    → AreTiles shapes (before ++ tile ∷ after) → StandAround old at end before after → IsTiling shapes new (before ++ tile ∷ after)
writes_tiling shapes old new at end tile before after body room ends written are around =
    let x : List ℕ = spelling tile in
    let rest : List ℕ = drop (at + length x) old in
    let others : rest ≡ spelled after = ap (λ (n : ℕ). drop n old) (sym ends) ∙ around.after in
    let long : 16 ≤ length (take at old) = omega (arith, length-take-le at old room) in
    record {
      tiled = are;
      whole = ap (drop 16) (written ∙ append_assoc (take at old) x rest)
          ∙ drop-append-le 16 (take at old) (x ++ rest) long
          ∙ ap (λ (z : List ℕ). z ++ (x ++ rest)) around.before
          ∙ ap (λ (z : List ℕ). spelled before ++ (x ++ z)) others
          ∙ sym (spelled-append before (tile ∷ after));
    }

-- the parts of a cell, one behind the other
pub cell_written : (cell : Cell) (old b1 b2 b3 b4 : List ℕ) (at content_at padding_at pad : ℕ) → at + cell_length (shape_of cell) ≤ length old
    → content_at ≡ at + 16 + 4 * length cell.children → padding_at ≡ content_at + length cell.content → pad ≡ cell_length (shape_of cell) - used_of (shape_of cell)
    → Writes old b1 at (spelled_head cell (cell_length (shape_of cell))) → Writes b1 b2 (at + 16) (flat_map (to_be_bytes w32) cell.children) → Writes b2 b3 content_at cell.content → Writes b3 b4 padding_at (replicate pad 0)
    → Writes old b4 at (spelled_cell cell)
unfolding spelled_cell
cell_written cell old b1 b2 b3 b4 at content_at padding_at pad room content_place padding_place padding w1 w2 w3 w4 =
    let head : List ℕ = spelled_head cell (cell_length (shape_of cell)) in
    let sixteen : length head ≡ 16 = refl in
    let addresses : List ℕ = flat_map (to_be_bytes w32) cell.children in
    let children : length addresses ≡ 4 * length cell.children = length-spelled_addresses cell.children in
    let two : length (head ++ addresses) ≡ length head + length addresses = length-append head addresses in
    let three : length ((head ++ addresses) ++ cell.content) ≡ length (head ++ addresses) + length cell.content = length-append (head ++ addresses) cell.content in
    let least : used_of (shape_of cell) ≤ cell_length (shape_of cell) = used-le-length (shape_of cell) in
    let v2 : Writes old b2 at (head ++ addresses) = writes_then old b1 b2 at (at + 16) head addresses (omega arith) (omega arith) w1 w2 in
    let v3 : Writes old b3 at ((head ++ addresses) ++ cell.content) = writes_then old b2 b3 at content_at (head ++ addresses) cell.content (omega arith) (omega arith) v2 w3 in
    let w : Writes b3 b4 padding_at (replicate (cell_length (shape_of cell) - used_of (shape_of cell)) 0) = subst (λ (n : ℕ). Writes b3 b4 padding_at (replicate n 0)) padding w4 in
    writes_then old b3 b4 at padding_at ((head ++ addresses) ++ cell.content) (replicate (cell_length (shape_of cell) - used_of (shape_of cell)) 0) (omega arith) (omega arith) v3 w

pub hole_written : (len at : ℕ) (old b1 b2 : List ℕ) → 4 ≤ len → at + len ≤ length old → Writes old b1 at (0 ∷ 0 ∷ to_be_bytes w16 len) → Writes b1 b2 (at + 4) (replicate (len - 4) 0) → Writes old b2 at (spelled_hole len)
unfolding spelled_hole
hole_written len at old b1 b2 least room w1 w2 =
    writes_then old b1 b2 at (at + 4) (0 ∷ 0 ∷ to_be_bytes w16 len) (replicate (len - 4) 0) (omega arith) refl w1 w2

pub writes_same : (old new : List ℕ) (at pos : ℕ) (x y : List ℕ) → at ≡ pos → x ≡ y → Writes old new at x → Writes old new pos y
writes_same old new at pos x y place same written = subst (λ (n : ℕ). Writes old new n y) place (subst (Writes old new at) same written)

-- a tile that is written behind others joins them
pub writes_joins : (old new : List ℕ) (at end next : ℕ) (tile : Tile) (before after : List Tile) → 16 ≤ at → next ≡ at + length (spelling tile) → next ≤ length old → next ≤ end → Writes old new at (spelling tile)
    → StandAround old at end before after → StandAround new next end (before ++ tile ∷ []) after
writes_joins old new at end next tile before after body place room short written around =
    let x : List ℕ = spelling tile in
    let rest : List ℕ = drop (at + length x) old in
    let long : length (take at old) ≡ at = length-take-le at old (omega (arith, room, place)) in
    let front : length (take at old ++ x) ≡ next = omega (arith, long, place, length-append (take at old) x) in
    let first : take next new ≡ take at old ++ x = ap (take next) written ∙ take_at (take at old ++ x) rest next front in
    let second : drop next new ≡ drop next old = ap (drop next) written ∙ drop_at (take at old ++ x) rest next front ∙ ap (λ (n : ℕ). drop n old) (sym place) in
    let sum : next + (end - next) ≡ end = omega arith in
    let last : drop end new ≡ drop end old =
    ap (λ (n : ℕ). drop n new) (sym sum) ∙ sym (drop-drop (end - next) next new) ∙ ap (drop (end - next)) second ∙ drop-drop (end - next) next old ∙ ap (λ (n : ℕ). drop n old) sum in
    record {
      before = ap (drop 16) first ∙ drop-append-le 16 (take at old) x (omega (arith, long, body)) ∙ ap (λ (z : List ℕ). z ++ x) around.before ∙ sym (spelled-push before tile);
      after = last ∙ around.after;
    }

-- the tiles of a block stand around each run of them
pub run_opened : (shapes : List Shape) (block : List ℕ) (before run after : List Tile) → IsTiling shapes block (before ++ (run ++ after))
    → StandAround block (16 + length (spelled before)) (16 + length (spelled before) + length (spelled run)) before after
run_opened shapes block before run after t =
    let at : ℕ = 16 + length (spelled before) in
    let rest : List ℕ = spelled run ++ spelled after in
    let whole : drop 16 block ≡ spelled before ++ rest = t.whole ∙ spelled-append before (run ++ after) ∙ ap (λ (z : List ℕ). spelled before ++ z) (spelled-append run after) in
    let before_part : drop 16 (take at block) ≡ spelled before = drop-take 16 (length (spelled before)) block ∙ ap (take (length (spelled before))) whole ∙ take_at (spelled before) rest (length (spelled before)) refl in
    let from_run : drop at block ≡ rest = sym (drop-drop (length (spelled before)) 16 block) ∙ ap (drop (length (spelled before))) whole ∙ drop_at (spelled before) rest (length (spelled before)) refl in
    record {
      before = before_part;
      after = sym (drop-drop (length (spelled run)) at block) ∙ ap (drop (length (spelled run))) from_run ∙ drop_at (spelled run) (spelled after) (length (spelled run)) refl;
    }

-- tiles that leave nothing between them are a tiling
pub run_closed : (shapes : List Shape) (block : List ℕ) (at : ℕ) (before after : List Tile) → 16 ≤ at → at ≤ length block → StandAround block at at before after → AreTiles shapes (before ++ after) → IsTiling shapes block (before ++ after)
run_closed shapes block at before after body room around are =
    let long : 16 ≤ length (take at block) = omega (arith, length-take-le at block room) in
    record {
      tiled = are;
      whole = ap (drop 16) (sym (take-append-drop at block)) ∙ drop-append-le 16 (take at block) (drop at block) long
          ∙ ap (λ (z : List ℕ). z ++ drop at block) around.before ∙ ap (λ (z : List ℕ). spelled before ++ z) around.after ∙ sym (spelled-append before after);
    }
