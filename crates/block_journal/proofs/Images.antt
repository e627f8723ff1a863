-- Images byte by byte: what a write changes, and what a write that is done in part leaves.
use Rattle.std.proofs.Common.{◌≡◌, ◌⊎◌, ⊎_elim, ℕ, zero, suc, ◌+◌, ◌-◌, ◌<◌, ◌≤◌, min, List, [], ◌∷◌, ◌++◌, length, get_or, take, drop, replicate, refl, sym, ◌∙◌, ap, arith, length-append, length-drop, append_assoc}
use Rattle.std.proofs.lemmas.List.{get_or-take, get_or-drop, get_or_append_left, get_or-append_right, length-take-le, append-nil}
use Rattle.hal_base.specs.Disk.{written, Torn}
use Rattle.block_journal.specs.Redo.{bytes_at}

-- at each place of a range that begins at `at`, the same byte
pub record SameFrom (at n : ℕ) (x y : List ℕ) : Type 0 where
  pub byte : (i : ℕ) → at ≤ i → i < at + n → get_or x i 0 ≡ get_or y i 0

-- outside of a range, the same bytes
pub record SameOutside (at n : ℕ) (x y : List ℕ) : Type 0 where
  pub byte : (i : ℕ) → (i < at) ⊎ (at + n ≤ i) → get_or x i 0 ≡ get_or y i 0

front_byte : (n : ℕ) (x y : List ℕ) (i : ℕ) → take n x ≡ take n y → i < n → get_or x i 0 ≡ get_or y i 0
front_byte n x y i same lt = sym (get_or-take n x i 0 lt) ∙ ap (λ (l : List ℕ). get_or l i 0) same ∙ get_or-take n y i 0 lt

back_byte : (n : ℕ) (x y : List ℕ) (i : ℕ) → drop n x ≡ drop n y → n ≤ i → get_or x i 0 ≡ get_or y i 0
back_byte n x y i same le =
    let j : ℕ = i - n in
    let is : n + j ≡ i = omega arith in
    sym (ap (λ (k : ℕ). get_or x k 0) is) ∙ sym (get_or-drop n x j 0) ∙ ap (λ (l : List ℕ). get_or l j 0) same ∙ get_or-drop n y j 0 ∙ ap (λ (k : ℕ). get_or y k 0) is

pub torn_outside : (at n : ℕ) (old new : List ℕ) → at ≤ length old → Torn at n old new → SameOutside at n new old
torn_outside at n old new within torn = record { byte = λ i where_is. ⊎_elim (λ lt. front_byte at new old i front lt) (λ le. back_byte (at + n) new old i torn.after le) where_is }
  where
    at_is : min at (length old) ≡ at
    at_is = omega (arith, within)

    front : take at new ≡ take at old
    front = ap (λ (k : ℕ). take k new) (sym at_is) ∙ torn.before

written_is : (at : ℕ) (bytes image : List ℕ) → at ≤ length image → written at bytes image ≡ take at image ++ (bytes ++ drop (at + length bytes) image)
written_is at bytes image within =
    let none : at - length image ≡ 0 = omega (arith, within) in
    ap (λ (k : ℕ). take at image ++ replicate k 0 ++ bytes ++ drop (at + length bytes) image) none
    ∙ ap (λ (l : List ℕ). l ++ bytes ++ drop (at + length bytes) image) (append-nil (take at image))
    ∙ append_assoc (take at image) bytes (drop (at + length bytes) image)

pub length-written : (at : ℕ) (bytes image : List ℕ) → at + length bytes ≤ length image → length (written at bytes image) ≡ length image
length-written at bytes image within =
    let le : at ≤ length image = omega (arith, within) in
    ap length (written_is at bytes image le) ∙ omega (arith, length-append (take at image) (bytes ++ drop (at + length bytes) image), length-append bytes (drop (at + length bytes) image), length-drop (at + length bytes) image, length-take-le at image le, within)

pub length-written_le : (at : ℕ) (bytes image : List ℕ) → at ≤ length image → (length image ≤ length (written at bytes image)) × (at + length bytes ≤ length (written at bytes image))
length-written_le at bytes image le =
    let e = ap length (written_is at bytes image le) in (
      omega (arith, e, length-append (take at image) (bytes ++ drop (at + length bytes) image), length-append bytes (drop (at + length bytes) image), length-drop (at + length bytes) image, length-take-le at image le),
      omega (arith, e, length-append (take at image) (bytes ++ drop (at + length bytes) image), length-append bytes (drop (at + length bytes) image), length-drop (at + length bytes) image, length-take-le at image le),
    )

pub written_inside : (at : ℕ) (bytes image : List ℕ) (i : ℕ) → at ≤ length image → i < length bytes → get_or (written at bytes image) (at + i) 0 ≡ get_or bytes i 0
written_inside at bytes image i le lt =
    let front = length-take-le at image le in
    let is : at + i - at ≡ i = omega arith in
    ap (λ (l : List ℕ). get_or l (at + i) 0) (written_is at bytes image le)
    ∙ get_or-append_right (take at image) (bytes ++ drop (at + length bytes) image) at (at + i) 0 front (omega arith)
    ∙ ap (λ (k : ℕ). get_or (bytes ++ drop (at + length bytes) image) k 0) is
    ∙ get_or_append_left bytes (drop (at + length bytes) image) 0 i lt

pub written_outside : (at : ℕ) (bytes image : List ℕ) → at ≤ length image → SameOutside at (length bytes) (written at bytes image) image
written_outside at bytes image le = record { byte = λ i where_is. ⊎_elim (before i) (after i) where_is }
  where
    n : ℕ
    n = length bytes

    front : length (take at image) ≡ at
    front = length-take-le at image le

    before : (i : ℕ) → i < at → get_or (written at bytes image) i 0 ≡ get_or image i 0
    before i lt =
        let lt_front : i < length (take at image) = omega (arith, front, lt) in
        ap (λ (l : List ℕ). get_or l i 0) (written_is at bytes image le) ∙ get_or_append_left (take at image) (bytes ++ drop (at + length bytes) image) 0 i lt_front ∙ get_or-take at image i 0 lt

    after : (i : ℕ) → at + length bytes ≤ i → get_or (written at bytes image) i 0 ≡ get_or image i 0
    after i past =
        let rest : List ℕ = drop (at + length bytes) image in
        let j : ℕ = i - at - length bytes in
        let is : at + length bytes + j ≡ i = omega (arith, past) in
        ap (λ (l : List ℕ). get_or l i 0) (written_is at bytes image le)
        ∙ get_or-append_right (take at image) (bytes ++ rest) at i 0 front (omega (arith, past))
        ∙ get_or-append_right bytes rest (length bytes) (i - at) 0 refl (omega (arith, past))
        ∙ get_or-drop (at + length bytes) image j 0
        ∙ ap (λ (k : ℕ). get_or image k 0) is

-- what a range holds
pub bytes_at-same : (at n : ℕ) (x y : List ℕ) → SameFrom at n x y → bytes_at at n x ≡ bytes_at at n y
unfolding bytes_at
bytes_at-same at zero x y same = refl
bytes_at-same at (suc n) x y same =
    let here : get_or x at 0 ≡ get_or y at 0 = same.byte at (omega arith) (omega arith) in
    let rest = bytes_at-same (at + 1) n x y (record { byte = λ i low high. same.byte i (omega (arith, low)) (omega (arith, high)) }) in
    (λ i. here i ∷ rest i)

-- a range holds these bytes
pub record HoldsAt (at : ℕ) (bytes image : List ℕ) : Type 0 where
  pub byte : (i : ℕ) → i < length bytes → get_or image (at + i) 0 ≡ get_or bytes i 0

pub bytes_at-is : (at n : ℕ) (bytes image : List ℕ) → length bytes ≡ n → HoldsAt at bytes image → bytes_at at n image ≡ bytes
unfolding bytes_at
bytes_at-is at zero [] image is holds = refl
bytes_at-is at zero (b ∷ bytes) image is holds = absurd (omega (arith, is))
bytes_at-is at (suc n) [] image is holds = absurd (omega (arith, is))
bytes_at-is at (suc n) (b ∷ bytes) image is holds =
    let first : get_or image at 0 ≡ b = ap (λ (k : ℕ). get_or image k 0) (omega arith) ∙ holds.byte 0 (omega arith) in
    let more : HoldsAt (at + 1) bytes image = record { byte = λ i lt. ap (λ (k : ℕ). get_or image k 0) (omega arith) ∙ holds.byte (suc i) (omega (arith, lt)) } in
    let rest = bytes_at-is (at + 1) n bytes image (omega (arith, is)) more in
    (λ i. first i ∷ rest i)
