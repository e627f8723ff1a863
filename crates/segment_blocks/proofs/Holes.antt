-- A hole that is read is spelled so, and what spells a hole is read as one.
use Rattle.std.proofs.Common.{◌≡◌, ℕ, ◌+◌, ◌-◌, ◌≤◌, List, ◌∷◌, ◌++◌, length, get_or, take, drop, replicate, refl, sym, ap, subst, ◌∙◌, arith}
use Rattle.std.specs.Int.{w16, to_be_bytes}
use Rattle.std.proofs.lemmas.List.{take-append-drop, take_at, drop-drop, length-append, length-take-le, length-drop, length-replicate}
use Rattle.std.proofs.lemmas.Nat.{be_bytes_2, from_be_bytes-to_be_bytes_2}
use Rattle.segment_blocks.specs.Tiling.{IsHole, spelled_hole}
use Rattle.segment_blocks.specs.Reading.{number16, HasZeros, BeginsWithHole}
use Rattle.segment_blocks.proofs.Addresses.{IsBytes, IsBytes-take, IsBytes-drop}

pub length-spelled_hole : (len : ℕ) → 4 ≤ len → length (spelled_hole len) ≡ len
unfolding spelled_hole
length-spelled_hole len least = omega (arith, length-replicate {A = ℕ} (len - 4) 0)

-- four bytes at the front
four_of : (bytes : List ℕ) → 4 ≤ length bytes → bytes ≡ get_or bytes 0 0 ∷ get_or bytes 1 0 ∷ take 2 (drop 2 bytes) ++ drop 4 bytes
four_of (a ∷ b ∷ c ∷ d ∷ rest) h = refl
four_of _ h = absurd (omega arith)

pub hole_takes : (bytes : List ℕ) → IsBytes bytes → BeginsWithHole bytes → bytes ≡ spelled_hole (number16 2 bytes) ++ drop (number16 2 bytes) bytes
unfolding spelled_hole
hole_takes bytes fits begins =
    let len : ℕ = number16 2 bytes in
    let room : 4 ≤ length bytes = omega (arith, begins.hole.least, begins.zeros.room) in
    let two : length (take 2 (drop 2 bytes)) ≡ 2 = length-take-le 2 (drop 2 bytes) (omega (arith, length-drop 2 bytes)) in
    let field : to_be_bytes w16 (number16 2 bytes) ≡ take 2 (drop 2 bytes) = be_bytes_2 (take 2 (drop 2 bytes)) _ two (IsBytes-take 2 (drop 2 bytes) (IsBytes-drop 2 bytes fits)) refl in
    let sum : 4 + (len - 4) ≡ len = omega (arith, begins.hole.least) in
    let behind : drop (len - 4) (drop 4 bytes) ≡ drop len bytes = drop-drop (len - 4) 4 bytes ∙ ap (λ (n : ℕ). drop n bytes) sum in
    let rest : drop 4 bytes ≡ replicate (len - 4) 0 ++ drop len bytes =
    sym (take-append-drop (len - 4) (drop 4 bytes)) ∙ ap (λ (x : List ℕ). x ++ drop (len - 4) (drop 4 bytes)) begins.zeros.zeros ∙ ap (λ (x : List ℕ). replicate (len - 4) 0 ++ x) behind in
    let head : List ℕ → ℕ → ℕ → List ℕ → List ℕ = λ (x : List ℕ) (a b : ℕ) (y : List ℕ). a ∷ b ∷ x ++ y in
    four_of bytes room
    ∙ ap (λ (a : ℕ). head (take 2 (drop 2 bytes)) a (get_or bytes 1 0) (drop 4 bytes)) begins.mark
    ∙ ap (λ (b : ℕ). head (take 2 (drop 2 bytes)) 0 b (drop 4 bytes)) begins.blank
    ∙ ap (λ (x : List ℕ). head x 0 0 (drop 4 bytes)) (sym field)
    ∙ ap (λ (y : List ℕ). head (to_be_bytes w16 len) 0 0 y) rest

-- what a hole spells is read as a hole, of its length
pub record IsReadAsHole (bytes : List ℕ) (len : ℕ) : Type 0 where
  pub begins : BeginsWithHole bytes
  pub number : number16 2 bytes ≡ len

hole_at_front : (len : ℕ) (more : List ℕ) → IsHole len → IsReadAsHole (spelled_hole len ++ more) len
unfolding spelled_hole
hole_at_front len more hole =
    let bytes : List ℕ = spelled_hole len ++ more in
    let field : number16 2 bytes ≡ len = from_be_bytes-to_be_bytes_2 len hole.fits in
    let all : length bytes ≡ length (spelled_hole len) + length more = length-append (spelled_hole len) more in
    let room : len ≤ length bytes = omega (arith, all, length-spelled_hole len hole.least) in
    let zeros : take (len - 4) (drop 4 bytes) ≡ replicate (len - 4) 0 = take_at (replicate (len - 4) 0) more (len - 4) (length-replicate (len - 4) 0) in
    let has : HasZeros bytes 4 len = record { room = room; zeros = zeros } in
    record {
      begins = record {
        mark = refl;
        blank = refl;
        hole = subst IsHole (sym field) hole;
        zeros = subst (λ (n : ℕ). HasZeros bytes 4 n) (sym field) has;
      };
      number = field;
    }

pub hole_again : (bytes : List ℕ) (len : ℕ) (more : List ℕ) → IsHole len → bytes ≡ spelled_hole len ++ more → IsReadAsHole bytes len
hole_again bytes len more hole e = subst (λ (b : List ℕ). IsReadAsHole b len) (sym e) (hole_at_front len more hole)
