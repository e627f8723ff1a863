-- What a write makes of an image.
use Rattle.std.proofs.Common.{◌≡◌, ⊎_elim, ℕ, ◌+◌, ◌-◌, ◌<◌, ◌≤◌, min, max, List, ◌++◌, length, take, drop, replicate, refl, sym, ◌∙◌, ap, arith, length-append, length-drop, append_assoc}
use Rattle.std.proofs.lemmas.List.{length-take, length-replicate, append-nil, take_at, drop_at, take_all, drop_all, take-append-le, replicate-append-replicate}
use Rattle.std.proofs.lemmas.Bool.{cases_lt}
use Rattle.hal_base.specs.Disk.{written, Torn}

front : ℕ → List ℕ → List ℕ
front at image = take at image ++ replicate (at - length image) 0

length-front : (at : ℕ) (image : List ℕ) → length (take at image ++ replicate (at - length image) 0) ≡ at
length-front at image = omega (arith, length-append (take at image) (replicate (at - length image) 0), length-take at image, length-replicate {A = ℕ} (at - length image) 0)

-- the image grows as far as the range that is written
pub length-written_max : (at : ℕ) (bytes image : List ℕ) → length (written at bytes image) ≡ max (length image) (at + length bytes)
length-written_max at bytes image =
    omega (arith, length-append (take at image ++ replicate (at - length image) 0 ++ bytes) (drop (at + length bytes) image), length-append (take at image ++ replicate (at - length image) 0) bytes, length-front at image, length-drop (at + length bytes) image)

-- a whole write is one of those that may be left of it
pub torn_whole : (at : ℕ) (bytes image : List ℕ) → Torn at (length bytes) image (written at bytes image)
torn_whole at bytes image = record {
  before = ap (λ (l : List ℕ). take (min at (length image)) l) split ∙ take_at (take at image) (replicate (at - length image) 0 ++ (bytes ++ drop (at + length bytes) image)) (min at (length image)) (omega (arith, length-take at image));
  after = drop_at (take at image ++ replicate (at - length image) 0 ++ bytes) (drop (at + length bytes) image) (at + length bytes) (omega (arith, length-append (take at image ++ replicate (at - length image) 0) bytes, length-front at image));
  no_shorter = omega (arith, length-written_max at bytes image);
  no_longer = omega (arith, length-written_max at bytes image);
}
  where
    split : written at bytes image ≡ take at image ++ (replicate (at - length image) 0 ++ (bytes ++ drop (at + length bytes) image))
    split =
        append_assoc (take at image ++ replicate (at - length image) 0) bytes (drop (at + length bytes) image)
        ∙ append_assoc (take at image) (replicate (at - length image) 0) (bytes ++ drop (at + length bytes) image)

-- a write that is done in no part
pub torn_none : (at n : ℕ) (image : List ℕ) → Torn at n image image
torn_none at n image = record { before = least; after = refl; no_shorter = omega arith; no_longer = omega arith }
  where
    least : take (min at (length image)) image ≡ take at image
    least = ⊎_elim (λ lt. ap (λ (k : ℕ). take k image) (omega (arith, lt))) (λ le. take_all (min at (length image)) image (omega (arith, le)) ∙ sym (take_all at image le)) (cases_lt at (length image))

zeros_front : (at k : ℕ) (image : List ℕ) → length image ≤ at → at - length image ≤ k → take at (image ++ replicate k 0) ≡ take at image ++ replicate (at - length image) 0
zeros_front at k image le few =
    let gap : ℕ = at - length image in
    let rest : ℕ = k - (at - length image) in
    let sum : gap + rest ≡ k = omega (arith, few) in
    ap (λ (n : ℕ). take at (image ++ replicate n 0)) (sym sum)
    ∙ ap (λ (l : List ℕ). take at (image ++ l)) (sym (replicate-append-replicate gap rest 0))
    ∙ ap (λ (l : List ℕ). take at l) (sym (append_assoc image (replicate gap 0) (replicate rest 0)))
    ∙ take_at (image ++ replicate gap 0) (replicate rest 0) at (omega (arith, length-append image (replicate gap 0), length-replicate {A = ℕ} gap 0, le))
    ∙ ap (λ (l : List ℕ). l ++ replicate gap 0) (sym (take_all at image le))

front_filled : (at k : ℕ) (image : List ℕ) → at ≤ length image + k → take at (image ++ replicate k 0) ≡ take at image ++ replicate (at - length image) 0
front_filled at k image fits = ⊎_elim (λ lt. within lt) (λ le. zeros_front at k image le (omega (arith, fits))) (cases_lt at (length image))
  where
    within : at < length image → take at (image ++ replicate k 0) ≡ take at image ++ replicate (at - length image) 0
    within lt =
        let none : at - length image ≡ 0 = omega (arith, lt) in
        take-append-le at image (replicate k 0) (omega (arith, lt)) ∙ sym (ap (λ (n : ℕ). take at image ++ replicate n 0) none ∙ append-nil (take at image))

-- the image filled up with zeros where it is short, and then written over
pub filled_written : (at : ℕ) (bytes image : List ℕ) → length image ≤ at + length bytes → take at (image ++ replicate (at + length bytes - length image) 0) ++ bytes ++ drop (at + length bytes) (image ++ replicate (at + length bytes - length image) 0) ≡ written at bytes image
filled_written at bytes image short =
    let k : ℕ = at + length bytes - length image in
    let long : length (image ++ replicate k 0) ≡ at + length bytes = omega (arith, length-append image (replicate k 0), length-replicate {A = ℕ} k 0, short) in
    let fronts = front_filled at k image (omega (arith, short)) in
    let back : drop (at + length bytes) (image ++ replicate k 0) ≡ drop (at + length bytes) image = drop_all (at + length bytes) (image ++ replicate k 0) (omega (arith, long)) ∙ sym (drop_all (at + length bytes) image short) in
    (λ i. fronts i ++ bytes ++ back i)

-- an image that is long enough, written over
pub long_written : (at : ℕ) (bytes image : List ℕ) → at ≤ length image → take at image ++ bytes ++ drop (at + length bytes) image ≡ written at bytes image
long_written at bytes image le =
    let none : at - length image ≡ 0 = omega (arith, le) in
    sym (ap (λ (n : ℕ). take at image ++ replicate n 0 ++ bytes ++ drop (at + length bytes) image) none ∙ ap (λ (l : List ℕ). l ++ bytes ++ drop (at + length bytes) image) (append-nil (take at image)))

-- the same of an image that is filled up where it is short
pub filled_any : (at : ℕ) (bytes image : List ℕ) → take at (image ++ replicate (at + length bytes - length image) 0) ++ bytes ++ drop (at + length bytes) (image ++ replicate (at + length bytes - length image) 0) ≡ written at bytes image
filled_any at bytes image = ⊎_elim (λ lt. filled_written at bytes image (omega (arith, lt))) (λ le. long le) (cases_lt (length image) (at + length bytes))
  where
    long : at + length bytes ≤ length image → take at (image ++ replicate (at + length bytes - length image) 0) ++ bytes ++ drop (at + length bytes) (image ++ replicate (at + length bytes - length image) 0) ≡ written at bytes image
    long le =
        let none : at + length bytes - length image ≡ 0 = omega (arith, le) in
        let same : image ++ replicate (at + length bytes - length image) 0 ≡ image = ap (λ (n : ℕ). image ++ replicate n 0) none ∙ append-nil image in
        ap (λ (l : List ℕ). take at l ++ bytes ++ drop (at + length bytes) l) same ∙ long_written at bytes image (omega (arith, le))
