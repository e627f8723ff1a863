-- One cell of a tiled block, by its offset.
use Rattle.std.proofs.Common.{◌≡◌, ◌≢◌, ℕ, ◌+◌, ◌-◌, ◌<◌, ◌≤◌, inl, inr, Bool, true, false, cond, eqb, not, List, [], ◌∷◌, ◌++◌, length, get_or, drop, Option, None, Some, refl, sym, ap, subst, ◌∙◌, arith}
use Rattle.std.specs.Prelude.{slice_get, MatchBool}
use Rattle.std.proofs.lemmas.Bool.{ne_eqb}
use Rattle.std.proofs.lemmas.Bool.Decides.{eqb_tells}
use Rattle.std.proofs.lemmas.List.{length-append, length-drop, drop-drop, drop_at, get_or-drop}
use Rattle.hal_base.specs.declared.place.Shape.{Shape}
use Rattle.segment_blocks.specs.declared.tile.Cell.{Cell}
use Rattle.segment_blocks.specs.declared.tile.Tile.{Tile}
use Rattle.segment_blocks.specs.declared.tile.Tile.TheVariants.{Hole, Seg}
use Rattle.segment_blocks.specs.Tiling.{cell_length, shape_of, spelled_hole, spelled_cell, spelling, spelled, IsCell, AreTilesFrom, IsTiling, is_hole}
use Rattle.segment_blocks.specs.Reading.{number16, BeginsWithCell, cell_in}
use Rattle.segment_blocks.specs.TilesOf.{cell_among}
use Rattle.segment_blocks.proofs.Addresses.{IsBytes}
use Rattle.segment_blocks.proofs.Holes.{hole_again}
use Rattle.segment_blocks.proofs.Cells.{length-spelled_cell, shape_in, cell_takes, cell_again, code_again, mark_again, cell_begins}
use Rattle.segment_blocks.proofs.Tiles.{tile_whole, tile_length}
use Rattle.segment_blocks.proofs.Among.{first_or, rest_or, not_before, among_found}

some_is : {X : Type 0} (x y : X) → Some x ≡ Some y → x ≡ y
some_is {X} x y is = cc

-- ---- the bytes of a cell that stands among tiles

record Begins (shapes : List Shape) (start offset : ℕ) (bytes : List ℕ) (cell : Cell) : Type 0 where
  pub behind : start ≤ offset
  pub more : List ℕ
  pub front : drop (offset - start) bytes ≡ spelled_cell cell ++ more
  pub typed : IsCell shapes cell

deeper : (shapes : List Shape) (start offset : ℕ) (tile : Tile) (bytes : List ℕ) (cell : Cell) → Begins shapes (start + length (spelling tile)) offset bytes cell → Begins shapes start offset (spelling tile ++ bytes) cell
deeper shapes start offset tile bytes cell found =
    let len : ℕ = length (spelling tile) in
    let sum : len + (offset - (start + len)) ≡ offset - start = omega (arith, found.behind) in
    record {
      behind = omega (arith, found.behind);
      more = found.more;
      front = ap (λ (n : ℕ). drop n (spelling tile ++ bytes)) (sym sum) ∙ sym (drop-drop (offset - (start + len)) len (spelling tile ++ bytes))
          ∙ ap (drop (offset - (start + len))) (drop_at (spelling tile) bytes len refl) ∙ found.front;
      typed = found.typed;
    }

begins_here : (shapes : List Shape) (start offset : ℕ) (one cell : Cell) (more : List ℕ) → IsCell shapes one → start ≡ offset → one ≡ cell → Begins shapes start offset (spelled_cell one ++ more) cell
begins_here shapes start offset one cell more is here same =
    let none : 0 ≡ offset - start = omega (arith, here) in
    record {
      behind = omega (arith, here);
      more = more;
      front = ap (λ (n : ℕ). drop n (spelled_cell one ++ more)) (sym none) ∙ ap (λ (c : Cell). spelled_cell c ++ more) same;
      typed = subst (IsCell shapes) same is;
    }

begins_among : (shapes : List Shape) (start : ℕ) (after_hole : Bool) (tiles : List Tile) (offset : ℕ) (cell : Cell) → AreTilesFrom shapes start after_hole tiles → cell_among offset tiles ≡ Some cell
    → Begins shapes start offset (spelled tiles) cell
unfolding cell_among
begins_among shapes start after_hole [] offset cell are is = absurd (let wrong : None ≡ Some cell = is in cc)
begins_among shapes start after_hole (Hole at len ∷ tiles) offset cell are is =
    deeper shapes start offset (Hole at len) (spelled tiles) cell (begins_among shapes (start + length (spelling (Hole at len))) true tiles offset cell are.1 is)
begins_among shapes start after_hole (Seg at one ∷ tiles) offset cell are is =
    elim (eqb_tells at offset) [
      | inl same ↦ begins_here shapes start offset one cell (spelled tiles) are.0.1 (sym are.0.0 ∙ same.1)
          (some_is one cell (sym (first_or at offset one (cell_among offset tiles) same.1) ∙ is))
      | inr apart ↦ deeper shapes start offset (Seg at one) (spelled tiles) cell (begins_among shapes (start + length (spelling (Seg at one))) false tiles offset cell are.1
          (sym (ap (λ (b : Bool). cond b (Some one) (cell_among offset tiles)) apart.0) ∙ is))
    ]

-- a cell stands at the offset of the block
pub record IsThere (shapes : List Shape) (block : List ℕ) (at : ℕ) (cell : Cell) : Type 0 where
  pub low : 16 ≤ at
  pub high : at + 16 ≤ 4096
  pub more : List ℕ
  pub front : drop at block ≡ spelled_cell cell ++ more
  pub typed : IsCell shapes cell

pub is_there : (shapes : List Shape) (block : List ℕ) (tiles : List Tile) (at : ℕ) (cell : Cell) → length block ≡ 4096 → IsTiling shapes block tiles → cell_among at tiles ≡ Some cell → IsThere shapes block at cell
is_there shapes block tiles at cell long t is =
    let found = begins_among shapes 16 false tiles at cell t.tiled is in
    let sum : 16 + (at - 16) ≡ at = omega (arith, found.behind) in
    let front : drop at block ≡ spelled_cell cell ++ found.more =
    ap (λ (n : ℕ). drop n block) (sym sum) ∙ sym (drop-drop (at - 16) 16 block) ∙ ap (drop (at - 16)) t.whole ∙ found.front in
    let size : 4096 - at ≡ length (spelled_cell cell) + length found.more = ap (λ (n : ℕ). n - at) (sym long) ∙ sym (length-drop at block) ∙ ap length front ∙ length-append (spelled_cell cell) found.more in
    let least : 16 ≤ length (spelled_cell cell) = omega (arith, length-spelled_cell cell) in
    record { low = found.behind; high = omega (arith, size, least); more = found.more; front = front; typed = found.typed }

-- what is read there is that cell
pub reads_it : (shapes : List Shape) (bytes : List ℕ) (shape : Shape) (cell found : Cell) (more : List ℕ) → BeginsWithCell shapes bytes shape → IsCell shapes cell → bytes ≡ spelled_cell cell ++ more → found ≡ cell_in shape bytes → found ≡ cell
reads_it shapes bytes shape cell found more begins is front read =
    let same : shape ≡ shape_of cell =
    some_is shape (shape_of cell) (sym begins.typed ∙ ap (λ (n : ℕ). slice_get shapes (n - 1)) (code_again bytes cell more front) ∙ is.typed) in
    read ∙ ap (λ (s : Shape). cell_in s bytes) same ∙ cell_again bytes cell more is.fits front

-- whatever is read is a cell in the block
pub made_of : (shapes : List Shape) (bytes : List ℕ) (shape : Shape) (at : ℕ) (found : Cell) → IsBytes bytes → at + length bytes ≡ 4096 → BeginsWithCell shapes bytes shape → found ≡ cell_in shape bytes
    → (at + cell_length (shape_of found) ≤ 4096) × IsCell shapes found
made_of shapes bytes shape at found fits long begins read =
    let room : cell_length shape ≤ length bytes = begins.shaped.zeros.room in
    let same : cell_length (shape_of found) ≡ cell_length shape = ap (λ (c : Cell). cell_length (shape_of c)) read ∙ ap cell_length (shape_in shape bytes room) in
    (omega (arith, same, room, long), subst (IsCell shapes) (sym read) (cell_takes shapes bytes shape fits begins).typed)

pub none_there : (shapes : List Shape) (block bytes : List ℕ) (tiles : List Tile) (at from : ℕ) (cell : Cell) → length block ≡ 4096 → from ≡ at → bytes ≡ drop from block → IsTiling shapes block tiles → cell_among at tiles ≡ Some cell
    → ((shape : Shape) → BeginsWithCell shapes bytes shape → ⊥) → ⊥
none_there shapes block bytes tiles at from cell long e rest t is none =
    let found = is_there shapes block tiles at cell long t is in
    let front : bytes ≡ spelled_cell cell ++ found.more = rest ∙ ap (λ (n : ℕ). drop n block) e ∙ found.front in
    none (shape_of cell) (cell_begins shapes bytes cell found.more (omega (arith, ap length rest, length-drop from block, long)) found.typed front)

pub one_there : (shapes : List Shape) (block bytes : List ℕ) (tiles : List Tile) (at from : ℕ) (shape : Shape) (cell found : Cell) → length block ≡ 4096 → from ≡ at → bytes ≡ drop from block → IsTiling shapes block tiles
    → cell_among at tiles ≡ Some cell → BeginsWithCell shapes bytes shape → found ≡ cell_in shape bytes → found ≡ cell
one_there shapes block bytes tiles at from shape cell found long e rest t is begins read =
    let there = is_there shapes block tiles at cell long t is in
    reads_it shapes bytes shape cell found there.more begins there.typed (rest ∙ ap (λ (n : ℕ). drop n block) e ∙ there.front) read

pub made_there : (shapes : List Shape) (block bytes : List ℕ) (at from : ℕ) (shape : Shape) (found : Cell) → length block ≡ 4096 → IsBytes bytes → from ≡ at → at ≤ 4080 → bytes ≡ drop from block
    → BeginsWithCell shapes bytes shape → found ≡ cell_in shape bytes → (at + cell_length (shape_of found) ≤ 4096) × IsCell shapes found
made_there shapes block bytes at from shape found long fits e high rest begins read =
    made_of shapes bytes shape at found fits (omega (arith, e, high, ap length rest, length-drop from block, long)) begins read

-- ---- stepping over tiles

-- at `start` stand the tiles that are left, and what is looked for is among them
pub record WalksTo (shapes : List Shape) (block : List ℕ) (tiles : List Tile) (at start : ℕ) : Type 0 where
  pub rest : List Tile
  pub after_hole : Bool
  pub tiled : AreTilesFrom shapes start after_hole rest
  pub bytes : drop start block ≡ spelled rest
  pub same : cell_among at tiles ≡ cell_among at rest

pub walk_begins : (shapes : List Shape) (block : List ℕ) (tiles : List Tile) (at : ℕ) → IsTiling shapes block tiles → WalksTo shapes block tiles at 16
walk_begins shapes block tiles at t = record { rest = tiles; after_hole = false; tiled = t.tiled; bytes = t.whole; same = refl }

passes : (at start : ℕ) (tile : Tile) (rest : List Tile) → (shapes : List Shape) (after_hole : Bool) → AreTilesFrom shapes start after_hole (tile ∷ rest) → start < at → cell_among at (tile ∷ rest) ≡ cell_among at rest
unfolding cell_among
passes at start (Hole n len) rest shapes after_hole are below = refl
passes at start (Seg n cell) rest shapes after_hole are below = rest_or n at cell (cell_among at rest) (omega (arith, are.0.0, below))

-- one tile further, and a tile has four bytes
record Steps (shapes : List Shape) (block : List ℕ) (tiles : List Tile) (at start len : ℕ) : Type 0 where
  pub least : 4 ≤ len
  pub walks : WalksTo shapes block tiles at (start + len)

steps_from : (shapes : List Shape) (block : List ℕ) (tiles : List Tile) (at start len : ℕ) (after_hole : Bool) (rest : List Tile) → length block ≡ 4096 → start < at → at ≤ 4080 → len ≡ number16 (start + 2) block
    → AreTilesFrom shapes start after_hole rest → drop start block ≡ spelled rest → cell_among at tiles ≡ cell_among at rest → Steps shapes block tiles at start len
steps_from shapes block tiles at start len after_hole [] long below high read are bytes same =
    absurd (omega (arith, ap length bytes, length-drop start block, long, below, high))
steps_from shapes block tiles at start len after_hole (tile ∷ rest) long below high read are bytes same =
    let size : length (spelling tile) ≡ len =
    sym (tile_length shapes start after_hole (drop start block) tile (omega (arith, length-drop start block, long))
    (record { placed = are.0; front = bytes ∙ ap (λ (x : List ℕ). spelling tile ++ x) (sym (ap (drop (length (spelling tile))) bytes ∙ drop_at (spelling tile) (spelled rest) (length (spelling tile)) refl)) }))
    ∙ ap (λ (x : List ℕ). number16 0 x) (drop-drop 2 start block) ∙ sym read in
    record {
      least = subst (λ (n : ℕ). 4 ≤ n) size (tile_whole shapes start after_hole tile are.0).least;
      walks = record {
        rest = rest;
        after_hole = is_hole tile;
        tiled = subst (λ (n : ℕ). AreTilesFrom shapes (start + n) (is_hole tile) rest) size are.1;
        bytes = sym (drop-drop len start block) ∙ ap (drop len) bytes ∙ drop_at (spelling tile) (spelled rest) len size;
        same = same ∙ passes at start tile rest shapes after_hole are below;
      };
    }

pub steps : (shapes : List Shape) (block : List ℕ) (tiles : List Tile) (at start len : ℕ) → length block ≡ 4096 → start < at → at ≤ 4080 → len ≡ number16 (start + 2) block → WalksTo shapes block tiles at start
    → (4 ≤ len) × WalksTo shapes block tiles at (start + len)
steps shapes block tiles at start len long below high read w =
    let s = steps_from shapes block tiles at start len w.after_hole w.rest long below high read w.tiled w.bytes w.same in
    (s.least, s.walks)

none_or : (o : Option Cell) → ((cell : Cell) → o ≡ Some cell → ⊥) → o ≡ None
none_or None f = refl
none_or (Some cell) f = absurd (f cell refl)

none_before : (shapes : List Shape) (start : ℕ) (after_hole : Bool) (tiles : List Tile) (offset : ℕ) → AreTilesFrom shapes start after_hole tiles → offset < start → cell_among offset tiles ≡ None
none_before shapes start after_hole tiles offset are below =
    none_or (cell_among offset tiles) (λ cell is. let found = among_found offset tiles cell is in
    omega (arith, not_before shapes start after_hole tiles found.0 offset cell are found.1, below))

pub none_past : (shapes : List Shape) (block : List ℕ) (tiles : List Tile) (at : ℕ) → length block ≡ 4096 → IsTiling shapes block tiles → 4080 < at → cell_among at tiles ≡ None
none_past shapes block tiles at long t high =
    none_or (cell_among at tiles) (λ cell is. omega (arith, (is_there shapes block tiles at cell long t is).high, high))

-- what the walk's end tells
abbrev pub Tells : Bool → ℕ → List Tile → Type 0
Tells found at tiles = MatchBool found ((cell : Cell) × (cell_among at tiles ≡ Some cell)) (cell_among at tiles ≡ None)

pub tells_past : (shapes : List Shape) (block : List ℕ) (tiles : List Tile) (at start : ℕ) → WalksTo shapes block tiles at start → at < start → cell_among at tiles ≡ None
tells_past shapes block tiles at start w past = w.same ∙ none_before shapes start w.after_hole w.rest at w.tiled past

-- a cell's first byte isn't 0, a hole's is
here_from : (shapes : List Shape) (block : List ℕ) (at : ℕ) (after_hole : Bool) (rest : List Tile) (found : Bool) → length block ≡ 4096 → at ≤ 4080 → AreTilesFrom shapes at after_hole rest → drop at block ≡ spelled rest
    → (found ≡ true → get_or (drop at block) 0 0 ≢ 0) → (found ≡ false → get_or (drop at block) 0 0 ≡ 0) → Tells found at rest
unfolding cell_among
here_from shapes block at after_hole [] found long high are bytes marked blank =
    absurd (omega (arith, ap length bytes, length-drop at block, long, high))
here_from shapes block at after_hole (Hole n len ∷ rest) true long high are bytes marked blank =
    absurd (marked refl (ap (λ (x : List ℕ). get_or x 0 0) bytes ∙ (hole_again (spelled_hole len ++ spelled rest) len (spelled rest) are.0.2 refl).begins.mark))
here_from shapes block at after_hole (Hole n len ∷ rest) false long high are bytes marked blank =
    none_before shapes (at + length (spelling (Hole n len))) true rest at are.1 (omega (arith, (tile_whole shapes at after_hole (Hole n len) are.0).least))
here_from shapes block at after_hole (Seg n cell ∷ rest) true long high are bytes marked blank = (cell, first_or n at cell (cell_among at rest) are.0.0)
here_from shapes block at after_hole (Seg n cell ∷ rest) false long high are bytes marked blank =
    absurd (omega (arith, (mark_again (drop at block) cell (spelled rest) bytes).0, blank refl))

pub tells_here : (shapes : List Shape) (block : List ℕ) (tiles : List Tile) (at : ℕ) (found : Bool) → length block ≡ 4096 → at ≤ 4080 → WalksTo shapes block tiles at at
    → (found ≡ true → get_or (drop at block) 0 0 ≢ 0) → (found ≡ false → get_or (drop at block) 0 0 ≡ 0) → Tells found at tiles
tells_here shapes block tiles at found long high w marked blank =
    subst (λ (o : Option Cell). MatchBool found ((cell : Cell) × (o ≡ Some cell)) (o ≡ None)) (sym w.same)
    (here_from shapes block at w.after_hole w.rest found long high w.tiled w.bytes marked blank)

-- at the offset, its first byte tells
pub tells_by : (shapes : List Shape) (block : List ℕ) (tiles : List Tile) (at start end : ℕ) → length block ≡ 4096 → at ≤ 4080 → start ≡ end → end ≡ at → WalksTo shapes block tiles at start → Tells (not (eqb (get_or block end 0) 0)) at tiles
tells_by shapes block tiles at start end long high e0 e1 w =
    let here : WalksTo shapes block tiles at at = subst (WalksTo shapes block tiles at) (e0 ∙ e1) w in
    let none : at + 0 ≡ end = omega (arith, e1) in
    let first : get_or (drop at block) 0 0 ≡ get_or block end 0 = get_or-drop at block 0 0 ∙ ap (λ (n : ℕ). get_or block n 0) none in
    elim (eqb_tells (get_or block end 0) 0) [
      | inl zeroes ↦ subst (λ (b : Bool). Tells (not b) at tiles) (sym zeroes.0) (tells_here shapes block tiles at false long high here (λ e. absurd (let wrong : false ≡ true = e in cc)) (λ e. first ∙ zeroes.1))
      | inr some ↦ subst (λ (b : Bool). Tells (not b) at tiles) (sym some.0) (tells_here shapes block tiles at true long high here (λ e is. some.1 (sym first ∙ is)) (λ e. absurd (let wrong : true ≡ false = e in cc)))
    ]

-- past it, none begins there
pub tells_none : (shapes : List Shape) (block : List ℕ) (tiles : List Tile) (at start end : ℕ) → end ≤ start → start ≢ end → end ≡ at → WalksTo shapes block tiles at start → Tells (eqb start end) at tiles
tells_none shapes block tiles at start end past apart e w =
    subst (λ (b : Bool). Tells b at tiles) (sym (ne_eqb start end apart)) (tells_past shapes block tiles at start w (omega (arith, past, apart, e)))
