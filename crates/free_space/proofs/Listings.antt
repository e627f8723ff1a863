-- The cells of pages one after the other: each where the map has it, and their addresses rise.
use Rattle.std.proofs.Common.{◌≡◌, ℕ, zero, suc, ◌+◌, ◌*◌, ◌/◌, ◌^◌, ◌<◌, ◌≤◌, inl, inr, Bool, true, false, cond, eqb, nat_le, List, [], ◌∷◌, ◌++◌, length, Option, None, Some, refl, sym, ap, ◌∙◌, arith, length-append, append_assoc}
use Rattle.std.proofs.lemmas.List.{append-nil}
use Rattle.std.specs.Prelude.{slice_get}
use Rattle.std.proofs.lemmas.Bool.{cases_eq, eq-eqb, ne_eqb, and_parts, and_from, le-leb, leb-true}
use Rattle.std.proofs.lemmas.Bool.Decides.{eqb_tells}
use Rattle.hal_base.specs.declared.pages.SetId.{SetId}
use Rattle.hal_base.specs.declared.place.Shape.{Shape}
use Rattle.segment_blocks.specs.declared.tile.Cell.{Cell}
use Rattle.segment_blocks.specs.declared.tile.Tile.{Tile}
use Rattle.segment_blocks.specs.declared.tile.Tile.TheVariants.{Hole, Seg}
use Rattle.segment_blocks.specs.Tiling.{spelled, spelled_hole, spelled_cell, AreTilesFrom}
use Rattle.segment_blocks.specs.TilesOf.{cell_among}
use Rattle.free_space.specs.declared.listing.PlacedCell.{PlacedCell}
use Rattle.free_space.specs.Address.{address, letter_index, page_at, offset_at}
use Rattle.free_space.specs.Listing.{placed_among, placed_from, listed_at, rise_from}
use Rattle.free_space.specs.Map.{cell_on, cell_at}
use Rattle.free_space.proofs.MapSteps.{or_else, pick, tile_length, encoded, decoded, at_is, no_letter}

spelled_address : (set : SetId) (n at x : ℕ) → x / 2 ^ 28 ≡ letter_index set.letter → page_at x ≡ n → at ≡ offset_at x → address set n at ≡ x
spelled_address set n at x letter page here = sym (decoded x
    ∙ ap (λ (m : ℕ). m * 2 ^ 28 + page_at x * 2 ^ 12 + offset_at x) letter ∙ ap (λ (m : ℕ). letter_index set.letter * 2 ^ 28 + m * 2 ^ 12 + offset_at x) page
    ∙ ap (λ (m : ℕ). letter_index set.letter * 2 ^ 28 + n * 2 ^ 12 + m) (sym here))

pub placed_push : (set : SetId) (n : ℕ) (xs : List Tile) (tile : Tile) → placed_among set n (xs ++ tile ∷ []) ≡ placed_among set n xs ++ placed_among set n (tile ∷ [])
placed_push set n [] tile = refl
placed_push set n (Hole at len ∷ xs) tile = placed_push set n xs tile
placed_push set n (Seg at cell ∷ xs) tile = ap (λ (l : List PlacedCell). record { at = address set n at; cell = cell } ∷ l) (placed_push set n xs tile)

-- ---- a list by addresses

pub listed_append : (x : ℕ) (xs ys : List PlacedCell) → listed_at x (xs ++ ys) ≡ or_else (listed_at x xs) (listed_at x ys)
listed_append x [] ys = refl
listed_append x (p ∷ xs) ys = ap (cond (eqb p.at x) (Some p.cell)) (listed_append x xs ys) ∙ pick (eqb p.at x) p.cell (listed_at x xs) (listed_at x ys)

-- the cells of a page by their offsets, at an address of the page
page_listed : (shapes : List Shape) (set : SetId) (n x start : ℕ) (after_hole : Bool) (tiles : List Tile) → AreTilesFrom shapes start after_hole tiles → start + length (spelled tiles) ≤ 4096 → n < 65536
    → x / 2 ^ 28 ≡ letter_index set.letter → page_at x ≡ n → listed_at x (placed_among set n tiles) ≡ cell_among (offset_at x) tiles
unfolding cell_among
page_listed shapes set n x start after_hole [] are room few letter page = refl
page_listed shapes set n x start after_hole (Hole at len ∷ tiles) are room few letter page =
    page_listed shapes set n x (start + length (spelled_hole len)) true tiles are.1 (omega (arith, room, length-append (spelled_hole len) (spelled tiles))) few letter page
page_listed shapes set n x start after_hole (Seg at cell ∷ tiles) are room few letter page =
    let size = tile_length shapes start after_hole (Seg at cell) tiles are in
    let rest = page_listed shapes set n x (start + length (spelled_cell cell)) false tiles are.1 (omega (arith, room, length-append (spelled_cell cell) (spelled tiles))) few letter page in
    let inside : at < 4096 = omega (arith, size.0, size.1, room, length-append (spelled_cell cell) (spelled tiles)) in
    let same : eqb (address set n at) x ≡ eqb at (offset_at x) = elim (cases_eq at (offset_at x)) [
      | inl here ↦ eq-eqb (address set n at) x (spelled_address set n at x letter page here) ∙ sym (eq-eqb at (offset_at x) here)
      | inr apart ↦ ne_eqb (address set n at) x (λ is. apart (sym (encoded x (letter_index set.letter) n at (sym is) few inside).2)) ∙ sym (ne_eqb at (offset_at x) apart)
    ] in
    ap (λ (b : Bool). cond b (Some cell) (listed_at x (placed_among set n tiles))) same ∙ ap (cond (eqb at (offset_at x)) (Some cell)) rest

-- and none of them at an address elsewhere
page_apart : (shapes : List Shape) (set : SetId) (n x start : ℕ) (after_hole : Bool) (tiles : List Tile) → AreTilesFrom shapes start after_hole tiles → start + length (spelled tiles) ≤ 4096 → n < 65536
    → (x / 2 ^ 28 ≡ letter_index set.letter → page_at x ≡ n → ⊥) → listed_at x (placed_among set n tiles) ≡ None
page_apart shapes set n x start after_hole [] are room few apart = refl
page_apart shapes set n x start after_hole (Hole at len ∷ tiles) are room few apart =
    page_apart shapes set n x (start + length (spelled_hole len)) true tiles are.1 (omega (arith, room, length-append (spelled_hole len) (spelled tiles))) few apart
page_apart shapes set n x start after_hole (Seg at cell ∷ tiles) are room few apart =
    let size = tile_length shapes start after_hole (Seg at cell) tiles are in
    let rest = page_apart shapes set n x (start + length (spelled_cell cell)) false tiles are.1 (omega (arith, room, length-append (spelled_cell cell) (spelled tiles))) few apart in
    let inside : at < 4096 = omega (arith, size.0, size.1, room, length-append (spelled_cell cell) (spelled tiles)) in
    let differ : eqb (address set n at) x ≡ false = ne_eqb (address set n at) x (λ is. let c = encoded x (letter_index set.letter) n at (sym is) few inside in apart c.0 c.1) in
    ap (λ (b : Bool). cond b (Some cell) (listed_at x (placed_among set n tiles))) differ ∙ rest

-- each page is tiled, and within its block
pub record ArePages (shapes : List Shape) (layout : List (List Tile)) : Type 0 where
  pub tiled : (k : ℕ) (tiles : List Tile) → slice_get layout k ≡ Some tiles → AreTilesFrom shapes 16 false tiles × (16 + length (spelled tiles) ≤ 4096)

later_pages : {shapes : List Shape} {tiles : List Tile} {layout : List (List Tile)} → ArePages shapes (tiles ∷ layout) → ArePages shapes layout
later_pages are = record { tiled = λ k tiles is. are.tiled (suc k) tiles is }

-- pages from n on have no cell at an address before them, or of another letter
none_from : (shapes : List Shape) (set : SetId) (n x : ℕ) (layout : List (List Tile)) → ArePages shapes layout → n + length layout ≤ 65536 → (x / 2 ^ 28 ≡ letter_index set.letter → page_at x < n) → listed_at x (placed_from set n layout) ≡ None
none_from shapes set n x [] are few before = refl
none_from shapes set n x (tiles ∷ layout) are few before =
    let here = are.tiled 0 tiles refl in
    let first = page_apart shapes set n x 16 false tiles here.0 here.1 (omega (arith, few)) (λ letter page. absurd (omega (arith, before letter, page))) in
    listed_append x (placed_among set n tiles) (placed_from set (n + 1) layout) ∙ ap (λ (o : Option Cell). or_else o (listed_at x (placed_from set (n + 1) layout))) first
    ∙ none_from shapes set (n + 1) x layout (later_pages are) (omega (arith, few)) (λ letter. omega (arith, before letter))

or_nothing : (one : Option Cell) → or_else one None ≡ one
or_nothing None = refl
or_nothing (Some cell) = refl

listed_from : (shapes : List Shape) (set : SetId) (n x k : ℕ) (layout : List (List Tile)) → ArePages shapes layout → n + length layout ≤ 65536 → x / 2 ^ 28 ≡ letter_index set.letter → page_at x ≡ n + k
    → listed_at x (placed_from set n layout) ≡ cell_on (offset_at x) (slice_get layout k)
listed_from shapes set n x k [] are few letter page = refl
listed_from shapes set n x zero (tiles ∷ layout) are few letter page =
    let here = are.tiled 0 tiles refl in
    listed_append x (placed_among set n tiles) (placed_from set (n + 1) layout)
    ∙ ap (or_else (listed_at x (placed_among set n tiles))) (none_from shapes set (n + 1) x layout (later_pages are) (omega (arith, few)) (λ same. omega (arith, page)))
    ∙ or_nothing (listed_at x (placed_among set n tiles)) ∙ page_listed shapes set n x 16 false tiles here.0 here.1 (omega (arith, few)) letter (omega (arith, page))
listed_from shapes set n x (suc k) (tiles ∷ layout) are few letter page =
    let here = are.tiled 0 tiles refl in
    let first = page_apart shapes set n x 16 false tiles here.0 here.1 (omega (arith, few)) (λ same here_page. absurd (omega (arith, page, here_page))) in
    listed_append x (placed_among set n tiles) (placed_from set (n + 1) layout) ∙ ap (λ (o : Option Cell). or_else o (listed_at x (placed_from set (n + 1) layout))) first
    ∙ listed_from shapes set (n + 1) x k layout (later_pages are) (omega (arith, few)) letter (omega (arith, page))

pub listed_is : (shapes : List Shape) (set : SetId) (layout : List (List Tile)) (x : ℕ) → ArePages shapes layout → length layout ≤ 65536 → listed_at x (placed_from set 0 layout) ≡ cell_at set layout x
listed_is shapes set layout x are few =
    elim (eqb_tells (x / 2 ^ 28) (letter_index set.letter)) [
      | inl same ↦ listed_from shapes set 0 x (page_at x) layout are (omega (arith, few)) same.1 (omega arith) ∙ sym (at_is set layout x same.1)
      | inr other ↦ none_from shapes set 0 x layout are (omega (arith, few)) (λ letter. absurd (other.1 letter)) ∙ sym (no_letter set layout x other.1)
    ]

-- ---- the addresses rise

rise_weaker : (a b : ℕ) (list : List PlacedCell) → a ≤ b → rise_from b list ≡ true → rise_from a list ≡ true
rise_weaker a b [] le rise = refl
rise_weaker a b (p ∷ list) le rise =
    let both = and_parts (nat_le b p.at) (rise_from (p.at + 1) list) rise in
    and_from (nat_le a p.at) (rise_from (p.at + 1) list) (le-leb a p.at (omega (arith, le, leb-true b p.at both.0))) both.1

page_rises : (shapes : List Shape) (set : SetId) (n from start : ℕ) (after_hole : Bool) (tiles : List Tile) (rest : List PlacedCell) → AreTilesFrom shapes start after_hole tiles → start + length (spelled tiles) ≤ 4096
    → from ≤ address set n start → rise_from (address set (n + 1) 0) rest ≡ true → rise_from from (placed_among set n tiles ++ rest) ≡ true
page_rises shapes set n from start after_hole [] rest are room le rise = rise_weaker from (address set (n + 1) 0) rest (omega (arith, room, le)) rise
page_rises shapes set n from start after_hole (Hole at len ∷ tiles) rest are room le rise =
    page_rises shapes set n from (start + length (spelled_hole len)) true tiles rest are.1 (omega (arith, room, length-append (spelled_hole len) (spelled tiles))) (omega (arith, le)) rise
page_rises shapes set n from start after_hole (Seg at cell ∷ tiles) rest are room le rise =
    let size = tile_length shapes start after_hole (Seg at cell) tiles are in
    and_from (nat_le from (address set n at)) (rise_from (address set n at + 1) (placed_among set n tiles ++ rest)) (le-leb from (address set n at) (omega (arith, le, size.0)))
    (page_rises shapes set n (address set n at + 1) (start + length (spelled_cell cell)) false tiles rest are.1 (omega (arith, room, length-append (spelled_cell cell) (spelled tiles))) (omega (arith, size.0, size.1)) rise)

pub rises : (shapes : List Shape) (set : SetId) (n : ℕ) (layout : List (List Tile)) → ArePages shapes layout → rise_from (address set n 0) (placed_from set n layout) ≡ true
rises shapes set n [] are = refl
rises shapes set n (tiles ∷ layout) are =
    let here = are.tiled 0 tiles refl in
    page_rises shapes set n (address set n 0) 16 false tiles (placed_from set (n + 1) layout) here.0 here.1 (omega arith) (rises shapes set (n + 1) layout (later_pages are))

pub placed_more : (set : SetId) (n : ℕ) (layout : List (List Tile)) (tiles : List Tile) → placed_from set n (layout ++ tiles ∷ []) ≡ placed_from set n layout ++ placed_among set (n + length layout) tiles
placed_more set n [] tiles =
    let none : n ≡ n + 0 = omega arith in
    append-nil (placed_among set n tiles) ∙ ap (λ (m : ℕ). placed_among set m tiles) none
placed_more set n (first ∷ layout) tiles =
    let more : n + 1 + length layout ≡ n + length (first ∷ layout) = omega arith in
    ap (λ (l : List PlacedCell). placed_among set n first ++ l) (placed_more set (n + 1) layout tiles ∙ ap (λ (m : ℕ). placed_from set (n + 1) layout ++ placed_among set m tiles) more)
    ∙ sym (append_assoc (placed_among set n first) (placed_from set (n + 1) layout) (placed_among set (n + length (first ∷ layout)) tiles))
