-- A body has one tiling or stops at one offset, and not both.
use Rattle.std.proofs.Common.{◌≡◌, ℕ, ◌+◌, ◌<◌, false, List, [], ◌++◌, length, drop, Result, Ok, Err, refl, sym, ap, ◌∙◌, arith, inl, inr}
use Rattle.std.specs.Prelude.{IfOk, MatchResult}
use Rattle.std.proofs.lemmas.Bool.{cases_lt}
use Rattle.std.proofs.lemmas.List.{length-drop, drop_at, append-nil}
use Rattle.hal_base.specs.declared.place.Shape.{Shape}
use Rattle.segment_blocks.specs.declared.tile.Tile.{Tile}
use Rattle.segment_blocks.specs.declared.tile.BlockFault.{BlockFault}
use Rattle.segment_blocks.specs.declared.tile.BlockFault.TheVariants.{BadTile, Memory}
use Rattle.segment_blocks.specs.Tiling.{IsTiling, StopsAt, spelling, spelled}
use Rattle.segment_blocks.proofs.Tilings.{Continues, tiling_continues}
use Rattle.segment_blocks.proofs.TilesOf.{tiling_is}
use Rattle.segment_blocks.proofs.Progress.{leads_on}

-- tiles that lead to an offset where none begins are all that begin the body
furthest : (shapes : List Shape) (block : List ℕ) (offset : ℕ) → (s : StopsAt shapes block offset)
    → Continues shapes 16 false s.tiles (drop offset block) → ⊥
furthest shapes block offset s found =
    let len : ℕ = length (spelling found.next) in
    let more : drop len (drop offset block) ≡ found.more = ap (drop len) found.begins ∙ drop_at (spelling found.next) found.more len refl in
    let front : drop offset block ≡ spelling found.next ++ drop len (drop offset block) = found.begins ∙ ap (λ (x : List ℕ). spelling found.next ++ x) (sym more) in
    s.none found.next (offset + len) (leads_on shapes block s.tiles offset len found.next s.before found.are front refl)

pub not_both : (shapes : List Shape) (block : List ℕ) (offset : ℕ) (tiles : List Tile) → StopsAt shapes block offset → IsTiling shapes block tiles → ⊥
not_both shapes block offset tiles s t =
    let e : spelled s.tiles ++ drop offset block ≡ spelled tiles ++ [] = sym s.before.front ∙ t.whole ∙ sym (append-nil (spelled tiles)) in
    let some : 0 < length (drop offset block) = omega (arith, length-drop offset block, s.within) in
    furthest shapes block offset s (tiling_continues shapes 16 false s.tiles tiles (drop offset block) [] s.before.tiled t.tiled some e)

not_further : (shapes : List Shape) (block : List ℕ) (a b : ℕ) → StopsAt shapes block a → StopsAt shapes block b → a < b → ⊥
not_further shapes block a b s t below =
    let e : spelled s.tiles ++ drop a block ≡ spelled t.tiles ++ drop b block = sym s.before.front ∙ t.before.front in
    let some : length (drop b block) < length (drop a block) = omega (arith, length-drop a block, length-drop b block, below, s.within, t.within) in
    furthest shapes block a s (tiling_continues shapes 16 false s.tiles t.tiles (drop a block) (drop b block) s.before.tiled t.before.tiled some e)

pub one_stop : (shapes : List Shape) (block : List ℕ) (a b : ℕ) → StopsAt shapes block a → StopsAt shapes block b → a ≡ b
one_stop shapes block a b s t =
    elim (cases_lt a b) [
      | inl below ↦ absurd (not_further shapes block a b s t below)
      | inr above ↦ elim (cases_lt b a) [
        | inl below ↦ absurd (not_further shapes block b a t s below)
        | inr same ↦ omega arith
      ]
    ]

same_tiling : (shapes : List Shape) (block : List ℕ) (one other : List Tile) → IsTiling shapes block one → IsTiling shapes block other → one ≡ other
same_tiling shapes block one other s t = tiling_is shapes block one s ∙ sym (tiling_is shapes block other t)

-- a tiled body gives its tiles
pub is_given : (shapes : List Shape) (block : List ℕ) (r : Result (List Tile) BlockFault) → IfOk r (IsTiling shapes block) → ((offset : ℕ) → r ≡ Err (BadTile offset) → StopsAt shapes block offset)
    → (tiles : List Tile) → IsTiling shapes block tiles → MatchResult r (λ found. found ≡ tiles) (λ fault. fault ≡ Memory)
is_given shapes block (Ok found) ok bad tiles t = same_tiling shapes block found tiles ok t
is_given shapes block (Err (BadTile offset)) ok bad tiles t = absurd (not_both shapes block offset tiles (bad offset refl) t)
is_given shapes block (Err Memory) ok bad tiles t = refl
