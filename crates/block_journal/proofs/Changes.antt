-- Changes made to a list of blocks, and to the image that the blocks are read from.
use Rattle.std.proofs.Common.{◌≡◌, ◌⊎◌, inl, inr, ⊎_elim, ℕ, zero, suc, ◌+◌, ◌*◌, ◌^◌, ◌<◌, ◌≤◌, List, [], ◌∷◌, ◌++◌, length, get_or, set, refl, sym, ◌∙◌, ap, subst, arith, length-append, get_or-set_same, get_or-set_other}
use Rattle.std.specs.List.{flat_map}
use Rattle.std.specs.Int.{w32, from_be_bytes, to_be_bytes}
use Rattle.std.proofs.lemmas.List.{length-set, ext_get_or, get_or_past, set_past, get_or_append_left, get_or-append-add}
use Rattle.std.proofs.lemmas.Nat.{from_be_bytes-to_be_bytes_4}
use Rattle.std.proofs.lemmas.Bool.{cases_lt, cases_eq, cases_order}
use Rattle.hal_base.specs.Disk.{written}
use Rattle.block_journal.specs.Change.{Change}
use Rattle.block_journal.specs.Redo.{bytes_at, number_at, blocks_at, changes_at, put_all, put_image, change_bytes, body_bytes}
use Rattle.block_journal.specs.Placing.{AreWhole, IsOutside, SameBut}
use Rattle.block_journal.proofs.Images.{SameFrom, HoldsAt, bytes_at-same, bytes_at-is, written_inside, written_outside, length-written}
use Rattle.block_journal.specs.JournalLaw.{length-put_all}

-- a change of this number is among them
abbrev pub IsNamed : ℕ → List Change → Type 0
IsNamed k [] = ⊥
IsNamed k (c ∷ cs) = (c.0 ≡ k) ⊎ IsNamed k cs

pub put_all-next : (cs rest : List Change) (c : Change) (blocks : List (List ℕ)) → cs ≡ c ∷ rest → put_all rest (set blocks c.0 c.1) ≡ put_all cs blocks
unfolding put_all
put_all-next cs rest c blocks is = sym (ap (λ (l : List Change). put_all l blocks) is)

set_both : (k : ℕ) (b : List ℕ) (xs ys : List (List ℕ)) → length xs ≡ length ys → get_or (set xs k b) k [] ≡ get_or (set ys k b) k []
set_both k b xs ys same = ⊎_elim (inside) (past) (cases_lt k (length xs))
  where
    inside : k < length xs → get_or (set xs k b) k [] ≡ get_or (set ys k b) k []
    inside lt = get_or-set_same xs k b [] lt ∙ sym (get_or-set_same ys k b [] (omega (arith, same, lt)))

    past : length xs ≤ k → get_or (set xs k b) k [] ≡ get_or (set ys k b) k []
    past le =
        ap (λ (l : List (List ℕ)). get_or l k []) (set_past xs k b le) ∙ get_or_past xs k [] le
        ∙ sym (ap (λ (l : List (List ℕ)). get_or l k []) (set_past ys k b (omega (arith, same, le))) ∙ get_or_past ys k [] (omega (arith, same, le)))

-- where two lists of blocks differ only in blocks that are changed, the changes make them one
pub put_all-ext : (cs : List Change) (xs ys : List (List ℕ)) → length xs ≡ length ys → ((k : ℕ) → IsNamed k cs ⊎ (get_or xs k [] ≡ get_or ys k [])) → put_all cs xs ≡ put_all cs ys
unfolding put_all
put_all-ext [] xs ys same each = ext_get_or [] xs ys same (λ i lt. ⊎_elim (λ none. absurd none) (λ is. is) (each i))
put_all-ext (c ∷ cs) xs ys same each =
    put_all-ext cs (set xs c.0 c.1) (set ys c.0 c.1) (length-set xs c.0 c.1 ∙ same ∙ sym (length-set ys c.0 c.1)) (λ k. ⊎_elim (at k) (beside k) (cases_eq k c.0))
  where
    at : (k : ℕ) → k ≡ c.0 → IsNamed k cs ⊎ (get_or (set xs c.0 c.1) k [] ≡ get_or (set ys c.0 c.1) k [])
    at k is = inr (subst (λ (n : ℕ). get_or (set xs n c.1) k [] ≡ get_or (set ys n c.1) k []) is (set_both k c.1 xs ys same))

    beside : (k : ℕ) → (k ≡ c.0 → ⊥) → IsNamed k cs ⊎ (get_or (set xs c.0 c.1) k [] ≡ get_or (set ys c.0 c.1) k [])
    beside k ne = ⊎_elim (λ named. ⊎_elim (λ is. absurd (ne (sym is))) (λ among. inl among) named)
        (λ is. inr (get_or-set_other xs c.0 k c.1 [] ne ∙ is ∙ sym (get_or-set_other ys c.0 k c.1 [] ne)))
        (each k)

-- a block that isn't changed stays
pub put_all-other : (cs : List Change) (blocks : List (List ℕ)) (k : ℕ) → IsNamed k cs ⊎ (get_or (put_all cs blocks) k [] ≡ get_or blocks k [])
unfolding put_all
put_all-other [] blocks k = inr refl
put_all-other (c ∷ cs) blocks k =
    let rest = put_all-other cs (set blocks c.0 c.1) k in
    ⊎_elim (λ is. inl (inl (sym is))) (λ ne. ⊎_elim (λ among. inl (inr among)) (λ is. inr (is ∙ get_or-set_other blocks c.0 k c.1 [] ne)) rest) (cases_eq k c.0)

-- changes that are made already change nothing
pub put_all-twice : (cs : List Change) (blocks : List (List ℕ)) → put_all cs (put_all cs blocks) ≡ put_all cs blocks
put_all-twice cs blocks = put_all-ext cs (put_all cs blocks) blocks (length-put_all cs blocks) (put_all-other cs blocks)

-- the blocks of an image
pub length-blocks_at : (at n : ℕ) (image : List ℕ) → length (blocks_at at n image) ≡ n
unfolding blocks_at
length-blocks_at at zero image = refl
length-blocks_at at (suc n) image = omega (arith, length-blocks_at (at + 4096) n image)

pub block_at : (at n k : ℕ) (image : List ℕ) → k < n → get_or (blocks_at at n image) k [] ≡ bytes_at (at + 4096 * k) 4096 image
unfolding blocks_at
block_at at zero k image lt = absurd (omega (arith, lt))
block_at at (suc n) zero image lt = ap (λ (a : ℕ). bytes_at a 4096 image) (omega arith)
block_at at (suc n) (suc k) image lt =
    let rest = block_at (at + 4096) n k image (omega (arith, lt)) in
    rest ∙ ap (λ (a : ℕ). bytes_at a 4096 image) (omega arith)

pub blocks_at-ext : (at n : ℕ) (x y : List ℕ) → SameFrom at (4096 * n) x y → blocks_at at n x ≡ blocks_at at n y
unfolding blocks_at
blocks_at-ext at zero x y same = refl
blocks_at-ext at (suc n) x y same =
    let here : bytes_at at 4096 x ≡ bytes_at at 4096 y = bytes_at-same at 4096 x y (record { byte = λ i low high. same.byte i low (omega (arith, high)) }) in
    let rest = blocks_at-ext (at + 4096) n x y (record { byte = λ i low high. same.byte i (omega (arith, low)) (omega (arith, high)) }) in
    (λ i. here i ∷ rest i)

pub outside_below : (first : ℕ) (cs : List Change) (i : ℕ) → i < first → IsOutside first cs i
outside_below first [] i lt = tt
outside_below first (c ∷ cs) i lt = (inl (omega (arith, lt)), outside_below first cs i lt)

pub outside_above : (first count : ℕ) (cs : List Change) (i : ℕ) → AreWhole count cs → first + 4096 * count ≤ i → IsOutside first cs i
outside_above first count [] i whole le = tt
outside_above first count (c ∷ cs) i whole le = (inr (omega (arith, whole.0, le)), outside_above first count cs i whole.2 le)

block_outside : (first k : ℕ) (cs : List Change) → IsNamed k cs ⊎ ((i : ℕ) → first + 4096 * k ≤ i → i < first + 4096 * k + 4096 → IsOutside first cs i)
block_outside first k [] = inr (λ i low high. tt)
block_outside first k (c ∷ cs) = ⊎_elim (λ among. inl (inr among)) (λ rest. ⊎_elim (λ is. inl (inl is)) (⊎_elim (below rest) (above rest)) (cases_order c.0 k)) (block_outside first k cs)
  where
    Rest : Type 0
    Rest = (i : ℕ) → first + 4096 * k ≤ i → i < first + 4096 * k + 4096 → IsOutside first cs i

    below : ((i : ℕ) → first + 4096 * k ≤ i → i < first + 4096 * k + 4096 → IsOutside first cs i) → c.0 < k → IsNamed k (c ∷ cs) ⊎ ((i : ℕ) → first + 4096 * k ≤ i → i < first + 4096 * k + 4096 → IsOutside first (c ∷ cs) i)
    below rest lt = inr (λ i low high. (inr (omega (arith, lt, low)), rest i low high))

    above : ((i : ℕ) → first + 4096 * k ≤ i → i < first + 4096 * k + 4096 → IsOutside first cs i) → k < c.0 → IsNamed k (c ∷ cs) ⊎ ((i : ℕ) → first + 4096 * k ≤ i → i < first + 4096 * k + 4096 → IsOutside first (c ∷ cs) i)
    above rest lt = inr (λ i low high. (inl (omega (arith, lt, high)), rest i low high))

-- images that differ only in the changes' blocks stand for the same blocks with the changes
pub put_all-same : (first n : ℕ) (cs : List Change) (x y : List ℕ) → SameBut first cs x y → put_all cs (blocks_at first n x) ≡ put_all cs (blocks_at first n y)
put_all-same first n cs x y same = put_all-ext cs (blocks_at first n x) (blocks_at first n y) (length-blocks_at first n x ∙ sym (length-blocks_at first n y)) (λ k. ⊎_elim (λ among. inl among) (λ out. inr (⊎_elim (inside k out) (past k) (cases_lt k n))) (block_outside first k cs))
  where
    inside : (k : ℕ) → ((i : ℕ) → first + 4096 * k ≤ i → i < first + 4096 * k + 4096 → IsOutside first cs i) → k < n → get_or (blocks_at first n x) k [] ≡ get_or (blocks_at first n y) k []
    inside k out lt =
        block_at first n k x lt ∙ bytes_at-same (first + 4096 * k) 4096 x y (record { byte = λ i low high. same.byte i (out i low high) }) ∙ sym (block_at first n k y lt)

    past : (k : ℕ) → n ≤ k → get_or (blocks_at first n x) k [] ≡ get_or (blocks_at first n y) k []
    past k le =
        get_or_past (blocks_at first n x) k [] (omega (arith, length-blocks_at first n x, le)) ∙ sym (get_or_past (blocks_at first n y) k [] (omega (arith, length-blocks_at first n y, le)))

-- a block written to its place
pub blocks_at-written : (first n k : ℕ) (b image : List ℕ) → k < n → length b ≡ 4096 → first + 4096 * n ≤ length image → blocks_at first n (written (first + 4096 * k) b image) ≡ set (blocks_at first n image) k b
blocks_at-written first n k b image lt whole long =
    ext_get_or [] (blocks_at first n after) (set (blocks_at first n image) k b) (length-blocks_at first n after ∙ sym (length-set (blocks_at first n image) k b ∙ length-blocks_at first n image)) (λ j below. ⊎_elim (here j) (beside j (omega (arith, below, length-blocks_at first n after))) (cases_eq j k))
  where
    at : ℕ
    at = first + 4096 * k

    after : List ℕ
    after = written (first + 4096 * k) b image

    within : first + 4096 * k ≤ length image
    within = omega (arith, lt, long)

    is_block : bytes_at (first + 4096 * k) 4096 after ≡ b
    is_block = bytes_at-is (first + 4096 * k) 4096 b after whole (record { byte = λ i under. written_inside (first + 4096 * k) b image i within under })

    here : (j : ℕ) → j ≡ k → get_or (blocks_at first n after) j [] ≡ get_or (set (blocks_at first n image) k b) j []
    here j is = subst (λ (j : ℕ). get_or (blocks_at first n after) j [] ≡ get_or (set (blocks_at first n image) k b) j []) (sym is)
        (block_at first n k after lt ∙ is_block ∙ sym (get_or-set_same (blocks_at first n image) k b [] (omega (arith, length-blocks_at first n image, lt))))

    same : (j i : ℕ) → (j ≡ k → ⊥) → first + 4096 * j ≤ i → i < first + 4096 * j + 4096 → get_or after i 0 ≡ get_or image i 0
    same j i ne low high = (written_outside (first + 4096 * k) b image within).byte i (⊎_elim (λ is. absurd (ne is)) (⊎_elim (λ less. inl (omega (arith, less, high))) (λ more. inr (omega (arith, more, low, whole)))) (cases_order j k))

    beside : (j : ℕ) → j < n → (j ≡ k → ⊥) → get_or (blocks_at first n after) j [] ≡ get_or (set (blocks_at first n image) k b) j []
    beside j below ne =
        block_at first n j after below ∙ bytes_at-same (first + 4096 * j) 4096 after image (record { byte = λ i low high. same j i ne low high }) ∙ sym (block_at first n j image below) ∙ sym (get_or-set_other (blocks_at first n image) k j b [] ne)

pub length-put_image : (first count : ℕ) (cs : List Change) (image : List ℕ) → AreWhole count cs → first + 4096 * count ≤ length image → length (put_image first cs image) ≡ length image
unfolding put_image
length-put_image first count [] image whole long = refl
length-put_image first count (c ∷ cs) image whole long =
    let kept = length-written (first + 4096 * c.0) c.1 image (omega (arith, whole.0, whole.1, long)) in
    length-put_image first count cs (written (first + 4096 * c.0) c.1 image) whole.2 (omega (arith, kept, long)) ∙ kept

-- the changes' blocks written to their places are the changes made to the blocks
pub blocks_at-put_image : (first count : ℕ) (cs : List Change) (image : List ℕ) → AreWhole count cs → first + 4096 * count ≤ length image → blocks_at first count (put_image first cs image) ≡ put_all cs (blocks_at first count image)
unfolding put_image put_all
blocks_at-put_image first count [] image whole long = refl
blocks_at-put_image first count (c ∷ cs) image whole long =
    let kept = length-written (first + 4096 * c.0) c.1 image (omega (arith, whole.0, whole.1, long)) in
    blocks_at-put_image first count cs (written (first + 4096 * c.0) c.1 image) whole.2 (omega (arith, kept, long))
    ∙ ap (λ (l : List (List ℕ)). put_all cs l) (blocks_at-written first count c.0 c.1 image whole.0 whole.1 long)

pub put_image-outside : (first count : ℕ) (cs : List Change) (image : List ℕ) → AreWhole count cs → first + 4096 * count ≤ length image → SameBut first cs (put_image first cs image) image
unfolding put_image
put_image-outside first count [] image whole long = record { byte = λ i out. refl }
put_image-outside first count (c ∷ cs) image whole long =
    let next : List ℕ = written (first + 4096 * c.0) c.1 image in
    let kept = length-written (first + 4096 * c.0) c.1 image (omega (arith, whole.0, whole.1, long)) in
    let rest = put_image-outside first count cs next whole.2 (omega (arith, kept, long)) in
    let here = written_outside (first + 4096 * c.0) c.1 image (omega (arith, whole.0, long)) in
    record { byte = λ i out. rest.byte i out.1 ∙ here.byte i (⊎_elim (λ lt. inl lt) (λ le. inr (omega (arith, whole.1, le))) out.0) }

-- what a journal's body reads as
length-number : (n : ℕ) → length (to_be_bytes w32 n) ≡ 4
length-number n = refl

pub changes_at-is : (at count : ℕ) (cs : List Change) (image : List ℕ) → AreWhole count cs → count ≤ 2 ^ 32 → HoldsAt at (flat_map change_bytes cs) image → changes_at at (length cs) image ≡ cs
unfolding changes_at number_at
changes_at-is at count [] image whole small holds = refl
changes_at-is at count (c ∷ cs) image whole small holds =
    let number : List ℕ = to_be_bytes w32 c.0 in
    let rest : List ℕ = flat_map change_bytes cs in
    let long : length (number ++ c.1) ≡ 4100 = omega (arith, length-append number c.1, whole.1, length-number c.0) in
    let all : length ((number ++ c.1) ++ rest) ≡ 4100 + length rest = omega (arith, length-append (number ++ c.1) rest, long) in
    let front : (i : ℕ) → i < 4100 → get_or image (at + i) 0 ≡ get_or (number ++ c.1) i 0 = λ i lt. holds.byte i (omega (arith, all, lt)) ∙ get_or_append_left (number ++ c.1) rest 0 i (omega (arith, long, lt)) in
    let is_number : bytes_at at 4 image ≡ number = bytes_at-is at 4 number image (length-number c.0) (record { byte = λ i lt. front i (omega (arith, lt, length-number c.0)) ∙ get_or_append_left number c.1 0 i lt }) in
    let is_content : bytes_at (at + 4) 4096 image ≡ c.1 = bytes_at-is (at + 4) 4096 c.1 image whole.1 (record {
      byte = λ i lt.
          ap (λ (k : ℕ). get_or image k 0) (omega arith) ∙ front (4 + i) (omega (arith, lt, whole.1)) ∙ get_or-append-add number c.1 i 0;
    }) in
    let is_rest : changes_at (at + 4100) (length cs) image ≡ cs = changes_at-is (at + 4100) count cs image whole.2 small (record {
      byte = λ i lt.
          let past : 4100 + i ≡ length (number ++ c.1) + i = omega (arith, long) in
          ap (λ (k : ℕ). get_or image k 0) (omega arith) ∙ holds.byte (4100 + i) (omega (arith, all, lt)) ∙ ap (λ (k : ℕ). get_or ((number ++ c.1) ++ rest) k 0) past ∙ get_or-append-add (number ++ c.1) rest i 0;
    }) in
    let number_is : from_be_bytes w32 (bytes_at at 4 image) ≡ c.0 = ap (from_be_bytes w32) is_number ∙ from_be_bytes-to_be_bytes_4 c.0 (omega (arith, whole.0, small)) in
    (λ i. (number_is i, is_content i) ∷ is_rest i)

pub length-flat : (count : ℕ) (cs : List Change) → AreWhole count cs → length (flat_map change_bytes cs) ≡ 4100 * length cs
length-flat count [] whole = refl
length-flat count (c ∷ cs) whole =
    let rest = length-flat count cs whole.2 in
    let four : length (to_be_bytes w32 c.0) ≡ 4 = refl in
    omega (arith, rest, four, whole.1, length-append (change_bytes c) (flat_map change_bytes cs), length-append (to_be_bytes w32 c.0) c.1)

pub length-body : (count : ℕ) (cs : List Change) → AreWhole count cs → length (body_bytes cs) ≡ 8 + 4100 * length cs
length-body count cs whole =
    let eight : length (to_be_bytes w32 (length cs) ++ to_be_bytes w32 1) ≡ 8 = refl in
    omega (arith, eight, length-flat count cs whole, length-append (to_be_bytes w32 (length cs) ++ to_be_bytes w32 1) (flat_map change_bytes cs))
