-- One tile at the front of bytes: which it is, and that there is no other.
use Rattle.std.proofs.Common.{◌≡◌, ℕ, ◌-◌, ◌%◌, ◌^◌, ◌<◌, ◌≤◌, Bool, false, List, ◌++◌, length, get_or, drop, Some, refl, sym, ap, subst, ◌∙◌, arith}
use Rattle.std.specs.Prelude.{slice_get}
use Rattle.std.proofs.lemmas.List.{append_cancel_left}
use Rattle.hal_base.specs.declared.place.Shape.{Shape}
use Rattle.segment_blocks.specs.declared.tile.Cell.{Cell}
use Rattle.segment_blocks.specs.declared.tile.Tile.{Tile}
use Rattle.segment_blocks.specs.declared.tile.Tile.TheVariants.{Hole, Seg}
use Rattle.segment_blocks.specs.Tiling.{IsHole, IsCell, IsTileAt, shape_of, cell_length, spelled_hole, spelled_cell, spelling}
use Rattle.segment_blocks.specs.declared.head.Head.{Head}
use Rattle.segment_blocks.specs.declared.head.Head.TheVariants.{Hole as AHole, Seg as ASeg}
use Rattle.segment_blocks.specs.Reading.{number16, BeginsWithHole, BeginsWithCell, BeginsWith, cell_in, HasHead, tile_of}
use Rattle.segment_blocks.proofs.Addresses.{IsBytes}
use Rattle.segment_blocks.proofs.Holes.{length-spelled_hole, hole_takes, IsReadAsHole, hole_again}
use Rattle.segment_blocks.proofs.Cells.{length-spelled_cell, cell_again, code_again, mark_again, IsReadAsCell, cell_takes, cell_begins}

-- ---- what is read

pub hole_found : (shapes : List Shape) (start : ℕ) (after_hole : Bool) (bytes : List ℕ) (len : ℕ) → IsBytes bytes → after_hole ≡ false → BeginsWithHole bytes → len ≡ number16 2 bytes → BeginsWith shapes start after_hole bytes (Hole start len)
hole_found shapes start after_hole bytes len fits free begins read =
    let n : ℕ = number16 2 bytes in
    let size : length (spelled_hole n) ≡ n = length-spelled_hole n begins.hole.least in
    let front : bytes ≡ spelled_hole n ++ drop (length (spelled_hole n)) bytes = hole_takes bytes fits begins ∙ ap (λ (k : ℕ). spelled_hole n ++ drop k bytes) (sym size) in
    let found : BeginsWith shapes start after_hole bytes (Hole start n) = record { placed = (refl, free, begins.hole); front = front } in
    subst (λ (k : ℕ). BeginsWith shapes start after_hole bytes (Hole start k)) (sym read) found

pub cell_found : (shapes : List Shape) (start : ℕ) (after_hole : Bool) (bytes : List ℕ) (shape : Shape) (cell : Cell) → IsBytes bytes → BeginsWithCell shapes bytes shape → cell ≡ cell_in shape bytes → BeginsWith shapes start after_hole bytes (Seg start cell)
cell_found shapes start after_hole bytes shape cell fits begins read =
    let made : Cell = cell_in shape bytes in
    let taken : IsReadAsCell shapes bytes made = cell_takes shapes bytes shape fits begins in
    let front : bytes ≡ spelled_cell made ++ drop (length (spelled_cell made)) bytes = taken.parts ∙ ap (λ (k : ℕ). spelled_cell made ++ drop k bytes) (sym (length-spelled_cell made)) in
    let found : BeginsWith shapes start after_hole bytes (Seg start made) = record { placed = (refl, taken.typed); front = front } in
    subst (λ (c : Cell). BeginsWith shapes start after_hole bytes (Seg start c)) (sym read) found

pub head_begins : (shapes : List Shape) (start : ℕ) (after_hole : Bool) (bytes : List ℕ) (head : Head) → IsBytes bytes → HasHead shapes after_hole bytes head → BeginsWith shapes start after_hole bytes (tile_of head start bytes)
head_begins shapes start after_hole bytes AHole fits has = hole_found shapes start after_hole bytes (number16 2 bytes) fits has.0 has.1 refl
head_begins shapes start after_hole bytes (ASeg shape) fits has = cell_found shapes start after_hole bytes shape (cell_in shape bytes) fits has refl

pub no_tile : (shapes : List Shape) (start : ℕ) (after_hole : Bool) (bytes : List ℕ) → length bytes < 2 ^ 16 → (after_hole ≡ false → BeginsWithHole bytes → ⊥) → ((shape : Shape) → BeginsWithCell shapes bytes shape → ⊥)
    → (tile : Tile) → BeginsWith shapes start after_hole bytes tile → ⊥
no_tile shapes start after_hole bytes short no_hole no_cell (Hole at len) begins =
    no_hole begins.placed.1 (hole_again bytes len (drop (length (spelled_hole len)) bytes) begins.placed.2 begins.front).begins
no_tile shapes start after_hole bytes short no_hole no_cell (Seg at cell) begins =
    no_cell (shape_of cell) (cell_begins shapes bytes cell (drop (length (spelled_cell cell)) bytes) short begins.placed.1 begins.front)

-- ---- lengths

-- a tile's length is a multiple of 4, and at least 4
pub record IsWhole (len : ℕ) : Type 0 where
  pub least : 4 ≤ len
  pub fours : len % 4 ≡ 0

pub tile_whole : (shapes : List Shape) (start : ℕ) (after_hole : Bool) (tile : Tile) → IsTileAt shapes start after_hole tile → IsWhole (length (spelling tile))
tile_whole shapes start after_hole (Hole at len) is =
    subst IsWhole (sym (length-spelled_hole len is.2.least)) (record { least = is.2.least; fours = is.2.whole })
tile_whole shapes start after_hole (Seg at cell) is =
    let least : 4 ≤ cell_length (shape_of cell) = omega arith in
    let fours : cell_length (shape_of cell) % 4 ≡ 0 = omega arith in
    subst IsWhole (sym (length-spelled_cell cell)) (record { least = least; fours = fours })

-- the length stands in a tile's third and fourth byte
pub tile_length : (shapes : List Shape) (start : ℕ) (after_hole : Bool) (bytes : List ℕ) (tile : Tile) → length bytes < 2 ^ 16 → BeginsWith shapes start after_hole bytes tile → number16 2 bytes ≡ length (spelling tile)
tile_length shapes start after_hole bytes (Hole at len) short begins =
    let again : IsReadAsHole bytes len = hole_again bytes len (drop (length (spelled_hole len)) bytes) begins.placed.2 begins.front in
    again.number ∙ sym (length-spelled_hole len begins.placed.2.least)
tile_length shapes start after_hole bytes (Seg at cell) short begins =
    let again : BeginsWithCell shapes bytes (shape_of cell) = cell_begins shapes bytes cell (drop (length (spelled_cell cell)) bytes) short begins.placed.1 begins.front in
    again.shaped.len ∙ sym (length-spelled_cell cell)

-- ---- no other tile

some_is : (a b : Shape) → Some a ≡ Some b → a ≡ b
some_is a b e = cc

same_cell : (shapes : List Shape) (c d : Cell) (x y : List ℕ) → IsCell shapes c → IsCell shapes d → spelled_cell c ++ x ≡ spelled_cell d ++ y → c ≡ d
same_cell shapes c d x y is other e =
    let bytes : List ℕ = spelled_cell c ++ x in
    let code : c.code ≡ d.code = sym (code_again bytes c x refl) ∙ code_again bytes d y e in
    let shape : shape_of c ≡ shape_of d = some_is (shape_of c) (shape_of d) (sym is.typed ∙ ap (λ (n : ℕ). slice_get shapes (n - 1)) code ∙ other.typed) in
    sym (cell_again bytes c x is.fits refl) ∙ ap (λ (s : Shape). cell_in s bytes) shape ∙ cell_again bytes d y other.fits e

apart : (len : ℕ) (cell : Cell) (x y : List ℕ) → IsHole len → spelled_hole len ++ x ≡ spelled_cell cell ++ y → ⊥
apart len cell x y hole e =
    let bytes : List ℕ = spelled_hole len ++ x in
    let again : IsReadAsHole bytes len = hole_again bytes len x hole refl in
    let mark : get_or bytes 0 0 ≡ 0 = again.begins.mark in
    let marked = mark_again bytes cell y e in
    omega (arith, mark, marked.0)

pub same_tile : (shapes : List Shape) (start : ℕ) (after_hole : Bool) (s t : Tile) (x y : List ℕ) → IsTileAt shapes start after_hole s → IsTileAt shapes start after_hole t → spelling s ++ x ≡ spelling t ++ y → s ≡ t
same_tile shapes start after_hole (Hole a m) (Hole b n) x y is other e =
    let bytes : List ℕ = spelled_hole m ++ x in
    let first : number16 2 bytes ≡ m = (hole_again bytes m x is.2 refl).number in
    let second : number16 2 bytes ≡ n = (hole_again bytes n y other.2 e).number in
    let len : m ≡ n = sym first ∙ second in
    let at : a ≡ b = is.0 ∙ sym other.0 in
    ap (λ (k : ℕ). Hole k m) at ∙ ap (λ (k : ℕ). Hole b k) len
same_tile shapes start after_hole (Hole a m) (Seg b d) x y is other e = absurd (apart m d x y is.2 e)
same_tile shapes start after_hole (Seg a c) (Hole b n) x y is other e = absurd (apart n c y x other.2 (sym e))
same_tile shapes start after_hole (Seg a c) (Seg b d) x y is other e =
    let at : a ≡ b = is.0 ∙ sym other.0 in
    ap (λ (k : ℕ). Seg k c) at ∙ ap (λ (k : Cell). Seg b k) (same_cell shapes c d x y is.1 other.1 e)

pub same_rest : (s t : Tile) (x y : List ℕ) → s ≡ t → spelling s ++ x ≡ spelling t ++ y → x ≡ y
same_rest s t x y same e = append_cancel_left (spelling s) x y (e ∙ ap (λ (u : Tile). spelling u ++ y) (sym same))
