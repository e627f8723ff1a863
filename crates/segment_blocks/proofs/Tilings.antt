-- Lists of tiles: one more at the end, and no two tilings of one body.
use Rattle.std.proofs.Common.{◌≡◌, ℕ, ◌+◌, ◌<◌, Bool, List, [], ◌∷◌, ◌++◌, length, refl, sym, ap, subst, ◌∙◌, append_assoc, arith}
use Rattle.std.proofs.lemmas.List.{length-append, append-nil}
use Rattle.hal_base.specs.declared.place.Shape.{Shape}
use Rattle.segment_blocks.specs.declared.tile.Tile.{Tile}
use Rattle.segment_blocks.specs.Tiling.{IsTileAt, AreTilesFrom, is_hole, spelling, spelled}
use Rattle.segment_blocks.proofs.Tiles.{same_tile, same_rest}

-- whether a hole ends where these tiles do
abbrev pub ends_in_hole : Bool → List Tile → Bool
ends_in_hole after_hole [] = after_hole
ends_in_hole after_hole (tile ∷ tiles) = ends_in_hole (is_hole tile) tiles

pub ends_in_hole-push : (after_hole : Bool) (tiles : List Tile) (tile : Tile) → ends_in_hole after_hole (tiles ++ tile ∷ []) ≡ is_hole tile
ends_in_hole-push after_hole [] tile = refl
ends_in_hole-push after_hole (first ∷ tiles) tile = ends_in_hole-push (is_hole first) tiles tile

pub spelled-push : (tiles : List Tile) (tile : Tile) → spelled (tiles ++ tile ∷ []) ≡ spelled tiles ++ spelling tile
spelled-push [] tile = append-nil (spelling tile)
spelled-push (first ∷ tiles) tile = ap (λ (x : List ℕ). spelling first ++ x) (spelled-push tiles tile) ∙ sym (append_assoc (spelling first) (spelled tiles) (spelling tile))

pub spelled-append : (front rest : List Tile) → spelled (front ++ rest) ≡ spelled front ++ spelled rest
spelled-append [] rest = refl
spelled-append (first ∷ front) rest = ap (λ (x : List ℕ). spelling first ++ x) (spelled-append front rest) ∙ sym (append_assoc (spelling first) (spelled front) (spelled rest))

past : (start : ℕ) (first : Tile) (tiles : List Tile) → start + length (spelled (first ∷ tiles)) ≡ (start + length (spelling first)) + length (spelled tiles)
past start first tiles = omega (arith, length-append (spelling first) (spelled tiles))

-- one more tile follows
pub tiles_push : (shapes : List Shape) (start : ℕ) (after_hole : Bool) (tiles : List Tile) (tile : Tile) → AreTilesFrom shapes start after_hole tiles
    → IsTileAt shapes (start + length (spelled tiles)) (ends_in_hole after_hole tiles) tile → AreTilesFrom shapes start after_hole (tiles ++ tile ∷ [])
tiles_push shapes start after_hole [] tile are is =
    let e : start + 0 ≡ start = omega arith in
    (subst (λ (s : ℕ). IsTileAt shapes s after_hole tile) e is, tt)
tiles_push shapes start after_hole (first ∷ tiles) tile are is =
    let next : IsTileAt shapes ((start + length (spelling first)) + length (spelled tiles)) (ends_in_hole (is_hole first) tiles) tile =
    subst (λ (s : ℕ). IsTileAt shapes s (ends_in_hole (is_hole first) tiles) tile) (past start first tiles) is in
    (are.0, tiles_push shapes (start + length (spelling first)) (is_hole first) tiles tile are.1 next)

pub tiles_last : (shapes : List Shape) (start : ℕ) (after_hole : Bool) (tiles : List Tile) (tile : Tile) → AreTilesFrom shapes start after_hole (tiles ++ tile ∷ [])
    → IsTileAt shapes (start + length (spelled tiles)) (ends_in_hole after_hole tiles) tile
tiles_last shapes start after_hole [] tile are =
    let e : start ≡ start + 0 = omega arith in
    subst (λ (s : ℕ). IsTileAt shapes s after_hole tile) e are.0
tiles_last shapes start after_hole (first ∷ tiles) tile are =
    subst (λ (s : ℕ). IsTileAt shapes s (ends_in_hole (is_hole first) tiles) tile) (sym (past start first tiles))
    (tiles_last shapes (start + length (spelling first)) (is_hole first) tiles tile are.1)

-- of two lists of tiles that begin the same bytes, the one that leaves more is followed by a tile of the other
pub record Continues (shapes : List Shape) (start : ℕ) (after_hole : Bool) (tiles : List Tile) (rest : List ℕ) : Type 0 where
  pub next : Tile
  pub more : List ℕ
  pub are : AreTilesFrom shapes start after_hole (tiles ++ next ∷ [])
  pub begins : rest ≡ spelling next ++ more

pub tiling_continues : (shapes : List Shape) (start : ℕ) (after_hole : Bool) (tiles others : List Tile) (rest left : List ℕ) → AreTilesFrom shapes start after_hole tiles → AreTilesFrom shapes start after_hole others
    → length left < length rest → spelled tiles ++ rest ≡ spelled others ++ left → Continues shapes start after_hole tiles rest
tiling_continues shapes start after_hole [] [] rest left are further some e =
    let same : length rest ≡ length left = ap length e in
    absurd (omega (arith, same, some))
tiling_continues shapes start after_hole [] (t ∷ ts) rest left are further some e =
    record { next = t; more = spelled ts ++ left; are = (further.0, tt); begins = e ∙ append_assoc (spelling t) (spelled ts) left }
tiling_continues shapes start after_hole (s ∷ ss) [] rest left are further some e =
    let same : length (spelled (s ∷ ss) ++ rest) ≡ length left = ap length e in
    absurd (omega (arith, same, some, length-append (spelled (s ∷ ss)) rest))
tiling_continues shapes start after_hole (s ∷ ss) (t ∷ ts) rest left are further some e =
    let grouped : spelling s ++ (spelled ss ++ rest) ≡ spelling t ++ (spelled ts ++ left) = sym (append_assoc (spelling s) (spelled ss) rest) ∙ e ∙ append_assoc (spelling t) (spelled ts) left in
    let first : s ≡ t = same_tile shapes start after_hole s t (spelled ss ++ rest) (spelled ts ++ left) are.0 further.0 grouped in
    let behind : spelled ss ++ rest ≡ spelled ts ++ left = same_rest s t (spelled ss ++ rest) (spelled ts ++ left) first grouped in
    let others : AreTilesFrom shapes (start + length (spelling s)) (is_hole s) ts =
    subst (λ (u : Tile). AreTilesFrom shapes (start + length (spelling u)) (is_hole u) ts) (sym first) further.1 in
    let found : Continues shapes (start + length (spelling s)) (is_hole s) ss rest =
    tiling_continues shapes (start + length (spelling s)) (is_hole s) ss ts rest left are.1 others some behind in
    record { next = found.next; more = found.more; are = (are.0, found.are); begins = found.begins }
