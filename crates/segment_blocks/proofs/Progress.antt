-- A loop that reads one tile after the other.
use Rattle.std.proofs.Common.{◌≡◌, ℕ, ◌+◌, ◌-◌, ◌%◌, ◌^◌, ◌<◌, ◌≤◌, Bool, false, List, [], ◌∷◌, ◌++◌, length, take, drop, refl, sym, ap, subst, ◌∙◌, append_assoc, arith}
use Rattle.std.proofs.lemmas.List.{length-append, length-drop, take_rest, drop-drop, drop_at, drop_all, append-nil, append_cancel_left}
use Rattle.hal_base.specs.declared.place.Shape.{Shape}
use Rattle.segment_blocks.specs.declared.tile.Tile.{Tile}
use Rattle.segment_blocks.specs.Tiling.{IsTileAt, AreTiles, LeadsTo, IsTiling, StopsAt, is_hole, spelling, spelled}
use Rattle.segment_blocks.specs.Reading.{number16, BeginsWith}
use Rattle.segment_blocks.proofs.Tiles.{IsWhole, tile_whole, tile_length}
use Rattle.segment_blocks.proofs.Tilings.{ends_in_hole, ends_in_hole-push, spelled-push, tiles_push, tiles_last}

pub record Progress (shapes : List Shape) (block : List ℕ) (tiles : List Tile) (at : ℕ) (after_hole : Bool) : Type 0 where
  pub leads : LeadsTo shapes block tiles at
  pub last : after_hole ≡ ends_in_hole false tiles
  pub within : at ≤ length block
  pub fours : at % 4 ≡ 0

-- what is read of a block from an offset on
pub rest_of : (block : List ℕ) (at : ℕ) → length block ≡ 4096 → take (4096 - at) (drop at block) ≡ drop at block
rest_of block at whole = ap (λ (n : ℕ). take (n - at) (drop at block)) (sym whole) ∙ take_rest block at

pub starts : (shapes : List Shape) (block : List ℕ) → length block ≡ 4096 → Progress shapes block [] 16 false
starts shapes block whole = record { leads = record { tiled = tt; front = refl; ends = refl }; last = refl; within = omega arith; fours = refl }

-- what the tiles lead to, one tile on
pub leads_on : (shapes : List Shape) (block : List ℕ) (tiles : List Tile) (at len : ℕ) (tile : Tile) → LeadsTo shapes block tiles at → AreTiles shapes (tiles ++ tile ∷ [])
    → drop at block ≡ spelling tile ++ drop len (drop at block) → len ≡ length (spelling tile) → LeadsTo shapes block (tiles ++ tile ∷ []) (at + len)
leads_on shapes block tiles at len tile leads are front size =
    let grown : spelled (tiles ++ tile ∷ []) ≡ spelled tiles ++ spelling tile = spelled-push tiles tile in
    let sum : length (spelled (tiles ++ tile ∷ [])) ≡ length (spelled tiles) + length (spelling tile) = ap length grown ∙ length-append (spelled tiles) (spelling tile) in
    let behind : drop at block ≡ spelling tile ++ drop (at + len) block = front ∙ ap (λ (x : List ℕ). spelling tile ++ x) (drop-drop len at block) in
    record {
      tiled = are;
      front = leads.front ∙ ap (λ (x : List ℕ). spelled tiles ++ x) behind ∙ sym (append_assoc (spelled tiles) (spelling tile) (drop (at + len) block))
          ∙ ap (λ (x : List ℕ). x ++ drop (at + len) block) (sym grown);
      ends = omega (arith, leads.ends, sum, size);
    }

pub goes_on : (shapes : List Shape) (block : List ℕ) (tiles : List Tile) (at : ℕ) (after_hole : Bool) (tile : Tile) (len : ℕ) → length block ≡ 4096 → Progress shapes block tiles at after_hole
    → BeginsWith shapes at after_hole (drop at block) tile → len ≡ number16 (at + 2) block → Progress shapes block (tiles ++ tile ∷ []) (at + len) (is_hole tile)
goes_on shapes block tiles at after_hole tile len whole progress begins read =
    let bytes : List ℕ = drop at block in
    let rest : length bytes ≡ length block - at = length-drop at block in
    let short : length bytes < 2 ^ 16 = omega (arith, rest, whole) in
    let third : number16 (at + 2) block ≡ number16 2 bytes = ap (λ (x : List ℕ). number16 0 x) (sym (drop-drop 2 at block)) in
    let size : len ≡ length (spelling tile) = read ∙ third ∙ tile_length shapes at after_hole bytes tile short begins in
    let is : IsTileAt shapes at (ends_in_hole false tiles) tile = subst (λ (h : Bool). IsTileAt shapes at h tile) progress.last begins.placed in
    let front : bytes ≡ spelling tile ++ drop len bytes = begins.front ∙ ap (λ (n : ℕ). spelling tile ++ drop n bytes) (sym size) in
    let fours : IsWhole (length (spelling tile)) = tile_whole shapes at after_hole tile begins.placed in
    let parts : length bytes ≡ length (spelling tile) + length (drop len bytes) = ap length front ∙ length-append (spelling tile) (drop len bytes) in
    let placed : IsTileAt shapes (16 + length (spelled tiles)) (ends_in_hole false tiles) tile = subst (λ (s : ℕ). IsTileAt shapes s (ends_in_hole false tiles) tile) progress.leads.ends is in
    let are : AreTiles shapes (tiles ++ tile ∷ []) = tiles_push shapes 16 false tiles tile progress.leads.tiled placed in
    record {
      leads = leads_on shapes block tiles at len tile progress.leads are front size;
      last = sym (ends_in_hole-push false tiles tile);
      within = omega (arith, rest, parts, size, progress.within);
      fours = omega (arith, progress.fours, fours.fours, size);
    }

-- each tile leads further
pub moves : (shapes : List Shape) (block : List ℕ) (at : ℕ) (after_hole : Bool) (tile : Tile) (len : ℕ) → length block ≡ 4096 → BeginsWith shapes at after_hole (drop at block) tile → len ≡ number16 (at + 2) block → 0 < len
moves shapes block at after_hole tile len whole begins read =
    let third : number16 (at + 2) block ≡ number16 2 (drop at block) = ap (λ (x : List ℕ). number16 0 x) (sym (drop-drop 2 at block)) in
    let short : length (drop at block) < 2 ^ 16 = omega (arith, length-drop at block, whole) in
    let size : len ≡ length (spelling tile) = read ∙ third ∙ tile_length shapes at after_hole (drop at block) tile short begins in
    omega (arith, size, (tile_whole shapes at after_hole tile begins.placed).least)

pub ends : (shapes : List Shape) (block : List ℕ) (tiles : List Tile) (at : ℕ) (after_hole : Bool) → length block ≤ at → Progress shapes block tiles at after_hole → IsTiling shapes block tiles
ends shapes block tiles at after_hole done progress =
    let none : drop at block ≡ [] = drop_all at block done in
    record {
      tiled = progress.leads.tiled;
      whole = progress.leads.front ∙ ap (λ (x : List ℕ). spelled tiles ++ x) none ∙ append-nil (spelled tiles);
    }

-- a tile to which the tiles lead on begins what is left
begun : (shapes : List Shape) (block : List ℕ) (tiles : List Tile) (at : ℕ) (after_hole : Bool) (next : Tile) (end : ℕ) → Progress shapes block tiles at after_hole
    → LeadsTo shapes block (tiles ++ next ∷ []) end → BeginsWith shapes at after_hole (drop at block) next
begun shapes block tiles at after_hole next end progress leads =
    let last : IsTileAt shapes (16 + length (spelled tiles)) (ends_in_hole false tiles) next = tiles_last shapes 16 false tiles next leads.tiled in
    let placed : IsTileAt shapes at after_hole next =
    subst (λ (h : Bool). IsTileAt shapes at h next) (sym progress.last) (subst (λ (s : ℕ). IsTileAt shapes s (ends_in_hole false tiles) next) (sym progress.leads.ends) last) in
    let grouped : spelled tiles ++ drop at block ≡ spelled tiles ++ (spelling next ++ drop end block) =
    sym progress.leads.front ∙ leads.front ∙ ap (λ (x : List ℕ). x ++ drop end block) (spelled-push tiles next) ∙ append_assoc (spelled tiles) (spelling next) (drop end block) in
    let parts : drop at block ≡ spelling next ++ drop end block = append_cancel_left (spelled tiles) (drop at block) (spelling next ++ drop end block) grouped in
    let rest : drop (length (spelling next)) (drop at block) ≡ drop end block = ap (drop (length (spelling next))) parts ∙ drop_at (spelling next) (drop end block) (length (spelling next)) refl in
    record { placed = placed; front = parts ∙ ap (λ (x : List ℕ). spelling next ++ x) (sym rest) }

pub stops : (shapes : List Shape) (block : List ℕ) (tiles : List Tile) (at : ℕ) (after_hole : Bool) → at < length block → Progress shapes block tiles at after_hole
    → ((tile : Tile) → BeginsWith shapes at after_hole (drop at block) tile → ⊥) → StopsAt shapes block at
stops shapes block tiles at after_hole inside progress none = record {
  tiles = tiles;
  before = progress.leads;
  within = inside;
  none = λ next end leads. none next (begun shapes block tiles at after_hole next end progress leads);
}
