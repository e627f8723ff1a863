-- The cells among tiles, and a change of a layout seen as a change of the map from address to cell.
use Rattle.std.proofs.Common.{◌≡◌, ◌≢◌, ℕ, zero, suc, ◌+◌, ◌<◌, ◌≤◌, inl, inr, Bool, true, false, cond, eqb, List, [], ◌∷◌, ◌++◌, length, Option, None, Some, refl, sym, ap, ◌∙◌, arith, ◌-◌, ◌*◌, ◌/◌, ◌^◌, ◌⊎◌, get_or, replicate, subst, append_assoc}
use Rattle.std.proofs.lemmas.Bool.{ne_eqb, eq-eqb, cases_eq, cases_lt}
use Rattle.std.proofs.lemmas.Bool.Decides.{eqb_tells}
use Rattle.hal_base.specs.declared.place.Shape.{Shape}
use Rattle.segment_blocks.specs.declared.tile.Cell.{Cell}
use Rattle.segment_blocks.specs.declared.tile.Tile.{Tile}
use Rattle.segment_blocks.specs.declared.tile.Tile.TheVariants.{Hole, Seg}
use Rattle.segment_blocks.specs.Tiling.{spelled_hole, spelled_cell, spelling, is_hole, AreTilesFrom}
use Rattle.segment_blocks.specs.TilesOf.{cell_among}
use Rattle.segment_blocks.specs.Space.{AreHoles}
use Rattle.segment_blocks.specs.Space.{left_over}
use Rattle.free_space.specs.Gaps.{tile_offset}
use Rattle.free_space.proofs.Runs.{length-hole, length-cell}
use Rattle.std.specs.Prelude.{slice_get}
use Rattle.std.specs.Option.{option_map}
use Rattle.std.proofs.lemmas.List.{length-set}
use Rattle.std.proofs.lemmas.Option.{slice_get_within, slice_get-get_or}
use Rattle.hal_base.specs.declared.pages.SetId.{SetId}
use Rattle.free_space.specs.Address.{letter_index, page_at, offset_at}
use Rattle.free_space.specs.Map.{cell_on, cell_at, SameElsewhere, Adds, Alters, Drops}
use Rattle.free_space.specs.Changes.{Replaces}
use Rattle.free_space.specs.Placing.{grown, IsLeftEmpty}
use Rattle.free_space.proofs.Told.{some_is, set_same, set_other}

abbrev pub or_else : Option Cell → Option Cell → Option Cell
or_else None other = other
or_else (Some cell) other = Some cell

pub pick : (b : Bool) (cell : Cell) (one other : Option Cell) → cond b (Some cell) (or_else one other) ≡ or_else (cond b (Some cell) one) other
pick true cell one other = refl
pick false cell one other = refl

pub among-append : (o : ℕ) (xs ys : List Tile) → cell_among o (xs ++ ys) ≡ or_else (cell_among o xs) (cell_among o ys)
unfolding cell_among
among-append o [] ys = refl
among-append o (Hole at len ∷ xs) ys = among-append o xs ys
among-append o (Seg at cell ∷ xs) ys = ap (cond (eqb at o) (Some cell)) (among-append o xs ys) ∙ pick (eqb at o) cell (cell_among o xs) (cell_among o ys)

pub none_first : (o : ℕ) (xs ys : List Tile) → cell_among o xs ≡ None → cell_among o (xs ++ ys) ≡ cell_among o ys
none_first o xs ys none = among-append o xs ys ∙ ap (λ (c : Option Cell). or_else c (cell_among o ys)) none

or_none : (one other : Option Cell) → or_else one other ≡ None → (one ≡ None) × (other ≡ None)
or_none None other is = (refl, is)
or_none (Some cell) other is = absurd (let wrong : Some cell ≡ None = is in cc)

or_last : (one other : Option Cell) (cell : Cell) → other ≡ None → or_else one other ≡ Some cell → one ≡ Some cell
or_last None other cell none is = sym none ∙ is
or_last (Some first) other cell none is = is

pub last_none : (o : ℕ) (xs ys : List Tile) (cell : Cell) → cell_among o ys ≡ None → cell_among o (xs ++ ys) ≡ Some cell → cell_among o xs ≡ Some cell
last_none o xs ys cell none is = or_last (cell_among o xs) (cell_among o ys) cell none (sym (among-append o xs ys) ∙ is)

pub none_parts : (o : ℕ) (xs ys : List Tile) → cell_among o (xs ++ ys) ≡ None → (cell_among o xs ≡ None) × (cell_among o ys ≡ None)
none_parts o xs ys none = or_none (cell_among o xs) (cell_among o ys) (sym (among-append o xs ys) ∙ none)

pub no_cells : (o : ℕ) (tiles : List Tile) → AreHoles tiles → cell_among o tiles ≡ None
unfolding cell_among
no_cells o [] holes = refl
no_cells o (Hole at len ∷ tiles) holes = no_cells o tiles holes
no_cells o (Seg at cell ∷ tiles) holes = absurd (let wrong : true ≡ false = holes in cc)

left_holes : (at len : ℕ) → AreHoles (left_over at len)
left_holes at zero = refl
left_holes at (suc len) = refl

pub here_is : (off : ℕ) (cell : Cell) (rest : List Tile) → cell_among off (Seg off cell ∷ rest) ≡ Some cell
unfolding cell_among
here_is off cell rest = ap (λ (b : Bool). cond b (Some cell) (cell_among off rest)) (eq-eqb off off refl)

pub not_here : (o off : ℕ) (cell : Cell) (rest : List Tile) → o ≢ off → cell_among o (Seg off cell ∷ rest) ≡ cell_among o rest
unfolding cell_among
not_here o off cell rest apart = ap (λ (b : Bool). cond b (Some cell) (cell_among o rest)) (ne_eqb off o (λ same. apart (sym same)))

pub not_filled : (o off at len : ℕ) (cell : Cell) → o ≢ off → cell_among o (Seg off cell ∷ left_over at len) ≡ None
not_filled o off at len cell apart = not_here o off cell (left_over at len) apart ∙ no_cells o (left_over at len) (left_holes at len)

-- a run of tiles that gives way to another: what stands apart from both stands behind the change as before it
pub around : (o : ℕ) (before run other after : List Tile) → cell_among o run ≡ None → cell_among o other ≡ None → cell_among o (before ++ (other ++ after)) ≡ cell_among o (before ++ (run ++ after))
around o before run other after none_was none_is =
    among-append o before (other ++ after)
    ∙ ap (or_else (cell_among o before)) (none_first o other after none_is ∙ sym (none_first o run after none_was))
    ∙ sym (among-append o before (run ++ after))

-- ---- in a tiling

pub tile_length : (shapes : List Shape) (start : ℕ) (after_hole : Bool) (tile : Tile) (tiles : List Tile) → AreTilesFrom shapes start after_hole (tile ∷ tiles) → (tile_offset tile ≡ start) × (4 ≤ length (spelling tile))
tile_length shapes start after_hole (Hole at len) tiles are = (are.0.0, omega (arith, length-hole len are.0.2.least, are.0.2.least))
tile_length shapes start after_hole (Seg at cell) tiles are = (are.0.0, omega (arith, length-cell cell))

-- a tile among others begins where these do or behind it
pub not_before : (shapes : List Shape) (start : ℕ) (after_hole : Bool) (xs : List Tile) (tile : Tile) (ys : List Tile) → AreTilesFrom shapes start after_hole (xs ++ tile ∷ ys) → start ≤ tile_offset tile
not_before shapes start after_hole [] tile ys are = omega (arith, (tile_length shapes start after_hole tile ys are).0)
not_before shapes start after_hole (x ∷ xs) tile ys are =
    omega (arith, not_before shapes (start + length (spelling x)) (is_hole x) xs tile ys are.1)

pub none_before : (shapes : List Shape) (start : ℕ) (after_hole : Bool) (tiles : List Tile) (o : ℕ) → AreTilesFrom shapes start after_hole tiles → o < start → cell_among o tiles ≡ None
unfolding cell_among
none_before shapes start after_hole [] o are below = refl
none_before shapes start after_hole (Hole at len ∷ tiles) o are below = none_before shapes (start + length (spelled_hole len)) true tiles o are.1 (omega (arith, below))
none_before shapes start after_hole (Seg at cell ∷ tiles) o are below =
    not_here o at cell tiles (λ same. omega (arith, same, below, are.0.0)) ∙ none_before shapes (start + length (spelled_cell cell)) false tiles o are.1 (omega (arith, below))

-- no cell but the one that it may be begins where a tile does
pub apart_from : (shapes : List Shape) (start : ℕ) (after_hole : Bool) (xs : List Tile) (tile : Tile) (ys : List Tile) (off : ℕ) → AreTilesFrom shapes start after_hole (xs ++ tile ∷ ys) → tile_offset tile ≡ off
    → (cell_among off xs ≡ None) × (cell_among off ys ≡ None)
unfolding cell_among
apart_from shapes start after_hole [] tile ys off are is =
    let size = tile_length shapes start after_hole tile ys are in
    (refl, none_before shapes (start + length (spelling tile)) (is_hole tile) ys off are.1 (omega (arith, size.0, size.1, is)))
apart_from shapes start after_hole (Hole at len ∷ xs) tile ys off are is = apart_from shapes (start + length (spelled_hole len)) true xs tile ys off are.1 is
apart_from shapes start after_hole (Seg at cell ∷ xs) tile ys off are is =
    let rest = apart_from shapes (start + length (spelled_cell cell)) false xs tile ys off are.1 is in
    let size = tile_length shapes start after_hole (Seg at cell) (xs ++ tile ∷ ys) are in
    let behind = not_before shapes (start + length (spelled_cell cell)) false xs tile ys are.1 in
    (not_here off at cell xs (λ same. omega (arith, same, size.0, size.1, behind, is)) ∙ rest.0, rest.1)

-- a cell before a tile begins before it does
pub before_it : (shapes : List Shape) (start : ℕ) (after_hole : Bool) (xs : List Tile) (tile : Tile) (ys : List Tile) (o : ℕ) (cell : Cell) → AreTilesFrom shapes start after_hole (xs ++ tile ∷ ys) → cell_among o xs ≡ Some cell → o < tile_offset tile
unfolding cell_among
before_it shapes start after_hole [] tile ys o cell are is = absurd (let wrong : None ≡ Some cell = is in cc)
before_it shapes start after_hole (Hole at len ∷ xs) tile ys o cell are is = before_it shapes (start + length (spelled_hole len)) true xs tile ys o cell are.1 is
before_it shapes start after_hole (Seg at one ∷ xs) tile ys o cell are is =
    let size = tile_length shapes start after_hole (Seg at one) (xs ++ tile ∷ ys) are in
    let behind = not_before shapes (start + length (spelled_cell one)) false xs tile ys are.1 in
    elim (eqb_tells at o) [
      | inl same ↦ omega (arith, same.1, size.0, size.1, behind)
      | inr apart ↦ before_it shapes (start + length (spelled_cell one)) false xs tile ys o cell are.1 (sym (ap (λ (b : Bool). cond b (Some one) (cell_among o xs)) apart.0) ∙ is)
    ]

-- ---- addresses

pub encoded : (x letter page offset : ℕ) → x ≡ letter * 2 ^ 28 + page * 2 ^ 12 + offset → page < 65536 → offset < 4096 → (x / 2 ^ 28 ≡ letter) × (page_at x ≡ page) × (offset_at x ≡ offset)
encoded x letter page offset is p o = (omega (arith, is, p, o), omega (arith, is, p, o), omega (arith, is, p, o))

pub decoded : (x : ℕ) → x ≡ x / 2 ^ 28 * 2 ^ 28 + page_at x * 2 ^ 12 + offset_at x
decoded x = omega arith

same_address : (x y : ℕ) → x / 2 ^ 28 ≡ y / 2 ^ 28 → page_at x ≡ page_at y → offset_at x ≡ offset_at y → x ≡ y
same_address x y letter page offset =
    decoded x
    ∙ ap (λ (n : ℕ). n * 2 ^ 28 + page_at x * 2 ^ 12 + offset_at x) letter
    ∙ ap (λ (n : ℕ). y / 2 ^ 28 * 2 ^ 28 + n * 2 ^ 12 + offset_at x) page
    ∙ ap (λ (n : ℕ). y / 2 ^ 28 * 2 ^ 28 + page_at y * 2 ^ 12 + n) offset
    ∙ sym (decoded y)

offset_few : (x : ℕ) → offset_at x < 4096
offset_few x = omega arith

-- ---- what stands at an address

pub at_is : (set : SetId) (layout : List (List Tile)) (at : ℕ) → at / 2 ^ 28 ≡ letter_index set.letter → cell_at set layout at ≡ cell_on (offset_at at) (slice_get layout (page_at at))
unfolding cell_at
at_is set layout at letter = ap (λ (b : Bool). cond b (cell_on (offset_at at) (slice_get layout (page_at at))) None) (eq-eqb (at / 2 ^ 28) (letter_index set.letter) letter)

pub no_letter : (set : SetId) (layout : List (List Tile)) (at : ℕ) → (at / 2 ^ 28 ≡ letter_index set.letter → ⊥) → cell_at set layout at ≡ None
unfolding cell_at
no_letter set layout at apart =
    elim (eqb_tells (at / 2 ^ 28) (letter_index set.letter)) [
      | inl same ↦ absurd (apart same.1)
      | inr other ↦ ap (λ (b : Bool). cond b (cell_on (offset_at at) (slice_get layout (page_at at))) None) other.0
    ]

pub no_page : (set : SetId) (layout : List (List Tile)) (at : ℕ) → slice_get layout (page_at at) ≡ None → cell_at set layout at ≡ None
no_page set layout at none =
    elim (eqb_tells (at / 2 ^ 28) (letter_index set.letter)) [
      | inl same ↦ at_is set layout at same.1 ∙ ap (cell_on (offset_at at)) none
      | inr other ↦ no_letter set layout at other.1
    ]

pub stands_at : (set : SetId) (layout : List (List Tile)) (at n off : ℕ) (tiles : List Tile) → at / 2 ^ 28 ≡ letter_index set.letter → page_at at ≡ n → offset_at at ≡ off → slice_get layout n ≡ Some tiles
    → cell_at set layout at ≡ cell_among off tiles
stands_at set layout at n off tiles letter page offset among =
    at_is set layout at letter ∙ ap (cell_on (offset_at at)) (ap (slice_get layout) page ∙ among) ∙ ap (λ (o : ℕ). cell_among o tiles) offset

on_page : (o : ℕ) (page : Option (List Tile)) (cell : Cell) → cell_on o page ≡ Some cell → (tiles : List Tile) × (page ≡ Some tiles) × (cell_among o tiles ≡ Some cell)
on_page o None cell is = absurd (let wrong : None ≡ Some cell = is in cc)
on_page o (Some tiles) cell is = (tiles, refl, is)

-- a cell that stands at an address stands in a page, under the letter
pub stood_at : (set : SetId) (layout : List (List Tile)) (at : ℕ) (cell : Cell) → cell_at set layout at ≡ Some cell
    → (at / 2 ^ 28 ≡ letter_index set.letter) × ((tiles : List Tile) × (slice_get layout (page_at at) ≡ Some tiles) × (cell_among (offset_at at) tiles ≡ Some cell))
stood_at set layout at cell is =
    elim (eqb_tells (at / 2 ^ 28) (letter_index set.letter)) [
      | inl same ↦ (same.1, on_page (offset_at at) (slice_get layout (page_at at)) cell (sym (at_is set layout at same.1) ∙ is))
      | inr other ↦ absurd (let wrong : None ≡ Some cell = sym (no_letter set layout at other.1) ∙ is in cc)
    ]

same_at : (set : SetId) (old new : List (List Tile)) (at : ℕ) → (at / 2 ^ 28 ≡ letter_index set.letter → cell_on (offset_at at) (slice_get new (page_at at)) ≡ cell_on (offset_at at) (slice_get old (page_at at)))
    → cell_at set new at ≡ cell_at set old at
same_at set old new at same =
    elim (eqb_tells (at / 2 ^ 28) (letter_index set.letter)) [
      | inl letter ↦ at_is set new at letter.1 ∙ same letter.1 ∙ sym (at_is set old at letter.1)
      | inr other ↦ no_letter set new at other.1 ∙ sym (no_letter set old at other.1)
    ]

-- ---- a run of tiles that gives way

-- no cell of a run begins elsewhere than at this offset
abbrev OnlyAt : ℕ → List Tile → Type 0
OnlyAt off run = (o : ℕ) → o ≢ off → cell_among o run ≡ None

replaced_tiles : (old new : List (List Tile)) (n : ℕ) (before run other after : List Tile) → Replaces old new n before run other after → slice_get new n ≡ Some (before ++ (other ++ after))
replaced_tiles old new n before run other after r =
    let within : n < length new = omega (arith, slice_get_within old n (before ++ (run ++ after)) r.was, ap length r.is, length-set old n (before ++ (other ++ after))) in
    let there : slice_get new n ≡ Some (get_or new n []) = slice_get-get_or new n [] within in
    let same : before ++ (other ++ after) ≡ get_or new n [] = set_same old n (before ++ (other ++ after)) (get_or new n []) (ap (λ (l : List (List Tile)). slice_get l n) (sym r.is) ∙ there) in
    there ∙ ap (λ (l : List Tile). Some l) (sym same)

-- all but the address where the change was
elsewhere : (set : SetId) (old new : List (List Tile)) (n off at : ℕ) (before run other after : List Tile) → Replaces old new n before run other after → OnlyAt off run → OnlyAt off other
    → at / 2 ^ 28 ≡ letter_index set.letter → page_at at ≡ n → offset_at at ≡ off → SameElsewhere at (cell_at set old) (cell_at set new)
elsewhere set old new n off at before run other after r only_run only_other letter page offset = λ x differ. same_at set old new x (λ same_letter.
    elim (cases_eq (page_at x) n) [
      | inl same ↦ let apart : offset_at x ≢ off = λ is. differ (same_address x at (same_letter ∙ sym letter) (same ∙ sym page) (is ∙ sym offset)) in
          ap (cell_on (offset_at x)) (ap (slice_get new) same ∙ replaced_tiles old new n before run other after r)
          ∙ around (offset_at x) before run other after (only_run (offset_at x) apart) (only_other (offset_at x) apart)
          ∙ ap (cell_on (offset_at x)) (sym (ap (slice_get old) same ∙ r.was))
      | inr apart ↦ ap (cell_on (offset_at x)) (ap (λ (l : List (List Tile)). slice_get l (page_at x)) r.is ∙ set_other old n (page_at x) (before ++ (other ++ after)) apart)
    ])

only_one : (off : ℕ) (cell : Cell) → OnlyAt off (Seg off cell ∷ [])
only_one off cell = λ o apart. not_here o off cell [] apart ∙ no_cells o [] refl

only_holes : (off : ℕ) (tiles : List Tile) → AreHoles tiles → OnlyAt off tiles
only_holes off tiles holes = λ o apart. no_cells o tiles holes

-- ---- a cell that is changed, and one that is given back

pub alters : (shapes : List Shape) (set : SetId) (at : ℕ) (change : Cell → Cell) (old new : List (List Tile)) (before after : List Tile) (cell : Cell) → at / 2 ^ 28 ≡ letter_index set.letter
    → AreTilesFrom shapes 16 false (before ++ Seg (offset_at at) cell ∷ after) → Replaces old new (page_at at) before (Seg (offset_at at) cell ∷ []) (Seg (offset_at at) (change cell) ∷ []) after
    → Alters at change (cell_at set old) (cell_at set new)
alters shapes set at change old new before after cell letter are r =
    let off : ℕ = offset_at at in
    let none = apart_from shapes 16 false before (Seg off cell) after off are refl in
    let was : cell_at set old at ≡ Some cell =
    stands_at set old at (page_at at) off (before ++ (Seg off cell ∷ after)) letter refl refl r.was ∙ none_first off before (Seg off cell ∷ after) none.0 ∙ here_is off cell after in
    let is : cell_at set new at ≡ Some (change cell) =
    stands_at set new at (page_at at) off (before ++ (Seg off (change cell) ∷ after)) letter refl refl (replaced_tiles old new (page_at at) before (Seg off cell ∷ []) (Seg off (change cell) ∷ []) after r)
    ∙ none_first off before (Seg off (change cell) ∷ after) none.0 ∙ here_is off (change cell) after in
    record {
      altered = is ∙ sym (ap (option_map change) was);
      elsewhere = elsewhere set old new (page_at at) off at before (Seg off cell ∷ []) (Seg off (change cell) ∷ []) after r (only_one off cell) (only_one off (change cell)) letter refl refl;
    }

only_run : (off : ℕ) (left : List Tile) (cell : Cell) (right : List Tile) → AreHoles left → AreHoles right → OnlyAt off (left ++ Seg off cell ∷ right)
only_run off left cell right left_holes right_holes = λ o apart.
    none_first o left (Seg off cell ∷ right) (no_cells o left left_holes) ∙ not_here o off cell right apart ∙ no_cells o right right_holes

pub drops : (shapes : List Shape) (set : SetId) (at begin len : ℕ) (old new : List (List Tile)) (before left right after : List Tile) (cell : Cell) → at / 2 ^ 28 ≡ letter_index set.letter
    → AreTilesFrom shapes 16 false (before ++ ((left ++ Seg (offset_at at) cell ∷ right) ++ after)) → AreHoles left → AreHoles right
    → Replaces old new (page_at at) before (left ++ Seg (offset_at at) cell ∷ right) (Hole begin len ∷ []) after → Drops at (cell_at set old) (cell_at set new)
drops shapes set at begin len old new before left right after cell letter are left_holes right_holes r =
    let off : ℕ = offset_at at in
    let run : List Tile = left ++ Seg off cell ∷ right in
    let grouped : before ++ (run ++ after) ≡ (before ++ left) ++ Seg off cell ∷ (right ++ after) =
    ap (λ (l : List Tile). before ++ l) (append_assoc left (Seg off cell ∷ right) after) ∙ sym (append_assoc before left (Seg off cell ∷ (right ++ after))) in
    let none = apart_from shapes 16 false (before ++ left) (Seg off cell) (right ++ after) off (subst (AreTilesFrom shapes 16 false) grouped are) refl in
    let front = none_parts off before left none.0 in
    let back = none_parts off right after none.1 in
    record {
      gone = stands_at set new at (page_at at) off (before ++ (Hole begin len ∷ after)) letter refl refl (replaced_tiles old new (page_at at) before run (Hole begin len ∷ []) after r)
          ∙ none_first off before (Hole begin len ∷ after) front.0 ∙ none_first off (Hole begin len ∷ []) after (no_cells off (Hole begin len ∷ []) refl) ∙ back.1;
      elsewhere = elsewhere set old new (page_at at) off at before run (Hole begin len ∷ []) after r (only_run off left cell right left_holes right_holes) (only_holes off (Hole begin len ∷ []) refl) letter refl refl;
    }

-- ---- a cell that came

on_empty : (o count p : ℕ) → cell_on o (slice_get (replicate count (Hole 16 4080 ∷ [])) p) ≡ None
on_empty o zero p = refl
on_empty o (suc count) zero = no_cells o (Hole 16 4080 ∷ []) refl
on_empty o (suc count) (suc p) = on_empty o count p

on_grown : (o count : ℕ) (old : List (List Tile)) (p : ℕ) → cell_on o (slice_get (grown count old) p) ≡ cell_on o (slice_get old p)
on_grown o count [] p = on_empty o count p
on_grown o count (tiles ∷ old) zero = refl
on_grown o count (tiles ∷ old) (suc p) = on_grown o count old p

pub grown_at : (set : SetId) (old : List (List Tile)) (count x : ℕ) → cell_at set (grown count old) x ≡ cell_at set old x
grown_at set old count x = same_at set old (grown count old) x (λ letter. on_grown (offset_at x) count old (page_at x))

pub adds : (shapes : List Shape) (set : SetId) (cell : Cell) (at n off len room : ℕ) (before after : List Tile) (old new : List (List Tile)) → at ≡ letter_index set.letter * 2 ^ 28 + n * 2 ^ 12 + off
    → AreTilesFrom shapes 16 false (before ++ (Hole off room ∷ after)) → n < 65536 → off < 4096
    → Replaces old new n before (Hole off room ∷ []) (Seg off cell ∷ left_over (off + len) (room - len)) after → Adds at cell (cell_at set old) (cell_at set new)
adds shapes set cell at n off len room before after old new address are few inside r =
    let put : List Tile = Seg off cell ∷ left_over (off + len) (room - len) in
    let c = encoded at (letter_index set.letter) n off address few inside in
    let none = apart_from shapes 16 false before (Hole off room) after off are refl in
    record {
      free = stands_at set old at n off (before ++ (Hole off room ∷ after)) c.0 c.1 c.2 r.was
          ∙ none_first off before (Hole off room ∷ after) none.0 ∙ none_first off (Hole off room ∷ []) after (no_cells off (Hole off room ∷ []) refl) ∙ none.1;
      stands = stands_at set new at n off (before ++ (put ++ after)) c.0 c.1 c.2 (replaced_tiles old new n before (Hole off room ∷ []) put after r)
          ∙ none_first off before (put ++ after) none.0 ∙ here_is off cell (left_over (off + len) (room - len) ++ after);
      elsewhere = elsewhere set old new n off at before (Hole off room ∷ []) put after r (only_holes off (Hole off room ∷ []) refl)
          (λ o apart. not_filled o off (off + len) (room - len) cell apart) c.0 c.1 c.2;
    }

-- new pages hold no cell
pub adds_grown : (set : SetId) (count at : ℕ) (cell : Cell) (old mid new : List (List Tile)) → mid ≡ grown count old → Adds at cell (cell_at set mid) (cell_at set new) → Adds at cell (cell_at set old) (cell_at set new)
adds_grown set count at cell old mid new is a =
    let same = λ (x : ℕ). ap (λ (l : List (List Tile)). cell_at set l x) is ∙ grown_at set old count x in
    record { free = sym (same at) ∙ a.free; stands = a.stands; elsewhere = λ x differ. a.elsewhere x differ ∙ same x }

-- ---- appended cells rise

lower : (x at p n o off letter : ℕ) → x ≡ letter * 2 ^ 28 + p * 2 ^ 12 + o → at ≡ letter * 2 ^ 28 + n * 2 ^ 12 + off → (p < n) ⊎ ((p ≡ n) × (o < off)) → o < 4096 → x < at
lower x at p n o off letter first second (inl less) few = omega (arith, first, second, less, few)
lower x at p n o off letter first second (inr last) few = omega (arith, first, second, last.0, last.1)

pub above : (shapes : List Shape) (set : SetId) (fbff count at n off room : ℕ) (before : List Tile) (old : List (List Tile)) → at ≡ letter_index set.letter * 2 ^ 28 + n * 2 ^ 12 + off
    → slice_get (grown count old) n ≡ Some (before ++ Hole off room ∷ []) → AreTilesFrom shapes 16 false (before ++ Hole off room ∷ [])
    → ((k : ℕ) (others : List Tile) → n < k → slice_get (grown count old) k ≡ Some others → IsLeftEmpty fbff k others)
    → (x : ℕ) (other : Cell) → cell_at set old x ≡ Some other → x < at
above shapes set fbff count at n off room before old address was are behind x other is =
    let there = stood_at set (grown count old) x other (grown_at set old count x ∙ is) in
    let (tiles, among, cell) = there.1 in
    let first : x ≡ letter_index set.letter * 2 ^ 28 + page_at x * 2 ^ 12 + offset_at x = decoded x ∙ ap (λ (m : ℕ). m * 2 ^ 28 + page_at x * 2 ^ 12 + offset_at x) there.0 in
    let below : (page_at x < n) ⊎ ((page_at x ≡ n) × (offset_at x < off)) = elim (cases_lt (page_at x) n) [
      | inl less ↦ inl less
      | inr past ↦ elim (cases_eq (page_at x) n) [
        | inl same ↦ let same_tiles : tiles ≡ before ++ Hole off room ∷ [] = some_is tiles (before ++ Hole off room ∷ []) (sym among ∙ ap (slice_get (grown count old)) same ∙ was) in
            let all : cell_among (offset_at x) (before ++ Hole off room ∷ []) ≡ Some other = ap (cell_among (offset_at x)) (sym same_tiles) ∙ cell in
            let front : cell_among (offset_at x) before ≡ Some other = last_none (offset_at x) before (Hole off room ∷ []) other (no_cells (offset_at x) (Hole off room ∷ []) refl) all in
            inr (same, before_it shapes 16 false before (Hole off room) [] (offset_at x) other are front)
        | inr differ ↦ absurd (let wrong : None ≡ Some other = sym (no_cells (offset_at x) tiles (behind (page_at x) tiles (omega (arith, past, differ)) among).1) ∙ cell in cc)
      ]
    ] in
    lower x at (page_at x) n (offset_at x) off (letter_index set.letter) first address below (offset_few x)

-- ---- addresses of cells

pub not_zero : (shapes : List Shape) (set : SetId) (layout : List (List Tile)) (at : ℕ) (cell : Cell) → ((tiles : List Tile) → slice_get layout (page_at at) ≡ Some tiles → AreTilesFrom shapes 16 false tiles)
    → cell_at set layout at ≡ Some cell → at ≢ 0
not_zero shapes set layout at cell tiled is = λ none.
    let (tiles, among, there) = (stood_at set layout at cell is).1 in
    let low : offset_at at < 16 = omega (arith, none) in
    let wrong : None ≡ Some cell = sym (none_before shapes 16 false tiles (offset_at at) (tiled tiles among) low) ∙ there in
    cc
