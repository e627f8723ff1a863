-- Addresses of four bytes, one after the other: read as they were spelled, and spelled as they were read.
use Rattle.std.proofs.Common.{◌≡◌, ℕ, zero, suc, ◌+◌, ◌-◌, ◌*◌, ◌^◌, ◌<◌, ◌≤◌, List, [], ◌∷◌, ◌++◌, length, get_or, take, drop, refl, sym, ap, ◌∙◌, append_assoc, arith, inl, inr}
use Rattle.std.specs.List.{flat_map, AllByRecursion}
use Rattle.std.specs.Int.{w32, to_be_bytes, from_be_bytes}
use Rattle.std.proofs.lemmas.Bool.{cases_lt}
use Rattle.std.proofs.lemmas.List.{drop-drop, take-append-drop, length-take, length-take-le, length-drop, get_or-drop, get_or-take, get_or_past}
use Rattle.std.proofs.lemmas.Nat.{be_bytes_4, from_be_bytes-to_be_bytes_4}
use Rattle.segment_blocks.specs.Reading.{number32, addresses_in}

abbrev pub IsBytes : List ℕ → Type 0
IsBytes bytes = (i : ℕ) → get_or bytes i 0 < 256

pub IsBytes-drop : (n : ℕ) (bytes : List ℕ) → IsBytes bytes → IsBytes (drop n bytes)
IsBytes-drop n bytes h i = rw get_or-drop (h (n + i))

pub IsBytes-take : (n : ℕ) (bytes : List ℕ) → IsBytes bytes → IsBytes (take n bytes)
IsBytes-take n bytes h i =
    elim (cases_lt i n) [
      | inl lt ↦ rw (get_or-take n bytes i 0 lt) (h i)
      | inr le ↦ rw (get_or_past (take n bytes) i 0 (omega (arith, length-take n bytes))) (omega arith)
    ]

-- one more address is read
pub addresses_more : (count i : ℕ) (bytes : List ℕ) → i < count → addresses_in (count - i) (drop (4 * i) bytes) ≡ number32 (4 * i) bytes ∷ addresses_in (count - (i + 1)) (drop (4 * (i + 1)) bytes)
addresses_more count i bytes lt =
    let k : count - i ≡ suc (count - (i + 1)) = omega arith in
    let four : 4 * i + 4 ≡ 4 * (i + 1) = omega arith in
    let next : drop 4 (drop (4 * i) bytes) ≡ drop (4 * (i + 1)) bytes = drop-drop 4 (4 * i) bytes ∙ ap (λ (n : ℕ). drop n bytes) four in
    rw k (ap (λ (rest : List ℕ). number32 (4 * i) bytes ∷ addresses_in (count - (i + 1)) rest) next)

pub length-addresses_in : (count : ℕ) (bytes : List ℕ) → length (addresses_in count bytes) ≡ count
length-addresses_in zero bytes = refl
length-addresses_in (suc count) bytes = ap suc (length-addresses_in count (drop 4 bytes))

pub length-spelled_addresses : (xs : List ℕ) → length (flat_map (to_be_bytes w32) xs) ≡ 4 * length xs
length-spelled_addresses [] = refl
length-spelled_addresses (x ∷ xs) = omega (arith, length-spelled_addresses xs)

pub addresses_fit : (count : ℕ) (bytes : List ℕ) → IsBytes bytes → AllByRecursion (λ child. child < 2 ^ 32) (addresses_in count bytes)
addresses_fit zero bytes fits = tt
addresses_fit (suc count) bytes fits =
    let front : IsBytes (take 4 bytes) = IsBytes-take 4 bytes fits in
    (omega (arith, front 0, front 1, front 2, front 3), addresses_fit count (drop 4 bytes) (IsBytes-drop 4 bytes fits))

-- what is read is spelled so
pub addresses_back : (count : ℕ) (bytes : List ℕ) → IsBytes bytes → 4 * count ≤ length bytes → bytes ≡ flat_map (to_be_bytes w32) (addresses_in count bytes) ++ drop (4 * count) bytes
addresses_back zero bytes fits room = refl
addresses_back (suc count) bytes fits room =
    let four : length (take 4 bytes) ≡ 4 = length-take-le 4 bytes (omega arith) in
    let first : to_be_bytes w32 (number32 0 bytes) ≡ take 4 bytes = be_bytes_4 (take 4 bytes) _ four (IsBytes-take 4 bytes fits) refl in
    let rest : drop 4 bytes ≡ flat_map (to_be_bytes w32) (addresses_in count (drop 4 bytes)) ++ drop (4 * count) (drop 4 bytes) = addresses_back count (drop 4 bytes) (IsBytes-drop 4 bytes fits) (omega (arith, length-drop 4 bytes)) in
    let sum : 4 + 4 * count ≡ 4 * suc count = omega arith in
    let behind : drop (4 * count) (drop 4 bytes) ≡ drop (4 * suc count) bytes = drop-drop (4 * count) 4 bytes ∙ ap (λ (n : ℕ). drop n bytes) sum in
    let others : List ℕ = flat_map (to_be_bytes w32) (addresses_in count (drop 4 bytes)) in
    sym (take-append-drop 4 bytes)
    ∙ ap (λ (x : List ℕ). x ++ drop 4 bytes) (sym first)
    ∙ ap (λ (x : List ℕ). to_be_bytes w32 (number32 0 bytes) ++ x) (rest ∙ ap (λ (x : List ℕ). others ++ x) behind)
    ∙ sym (append_assoc (to_be_bytes w32 (number32 0 bytes)) others (drop (4 * suc count) bytes))

-- what is spelled so is read
pub addresses_again : (xs more : List ℕ) → AllByRecursion (λ child. child < 2 ^ 32) xs → addresses_in (length xs) (flat_map (to_be_bytes w32) xs ++ more) ≡ xs
addresses_again [] more fits = refl
addresses_again (x ∷ xs) more fits =
    let whole : flat_map (to_be_bytes w32) (x ∷ xs) ++ more ≡ to_be_bytes w32 x ++ (flat_map (to_be_bytes w32) xs ++ more) = append_assoc (to_be_bytes w32 x) (flat_map (to_be_bytes w32) xs) more in
    let first : from_be_bytes w32 (to_be_bytes w32 x) ≡ x = from_be_bytes-to_be_bytes_4 x fits.0 in
    ap (addresses_in (suc (length xs))) whole ∙ ap (λ (y : ℕ). y ∷ addresses_in (length xs) (flat_map (to_be_bytes w32) xs ++ more)) first ∙ ap (λ (ys : List ℕ). x ∷ ys) (addresses_again xs more fits.1)

-- the step of a loop that reads addresses
pub addresses_step : (count i : ℕ) (bytes before after total : List ℕ) (x : ℕ) → i < count → x ≡ number32 (4 * i) bytes → after ≡ before ++ x ∷ []
    → before ++ addresses_in (count - i) (drop (4 * i) bytes) ≡ total → after ++ addresses_in (count - (i + 1)) (drop (4 * (i + 1)) bytes) ≡ total
addresses_step count i bytes before after total x lt read pushed so_far =
    let others : List ℕ = addresses_in (count - (i + 1)) (drop (4 * (i + 1)) bytes) in
    ap (λ (xs : List ℕ). xs ++ others) pushed
    ∙ append_assoc before (x ∷ []) others
    ∙ ap (λ (y : ℕ). before ++ y ∷ others) read
    ∙ ap (λ (xs : List ℕ). before ++ xs) (sym (addresses_more count i bytes lt))
    ∙ so_far
