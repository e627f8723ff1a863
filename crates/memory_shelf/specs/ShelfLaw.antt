-- What a shelf promises of its pages, blocks and free blocks holds of one in memory.
use Rattle.std.proofs.Common.{◌≡◌, ℕ, zero, suc, ◌+◌, ◌-◌, ◌≤◌, Bool, true, false, cond, List, [], ◌∷◌, length, All, nat_le, refl, ap, arith}
use Rattle.std.specs.List.{range_with_len}
use Rattle.std.proofs.lemmas.Bool.{and_from, le-leb}
use Rattle.std.proofs.lemmas.List.FromFn.{length-range_with_len}
use Rattle.std.proofs.lemmas.List.Elements.{All-nil, All-cons}
use Rattle.hal_base.specs.Pages.{rises_from}
use Rattle.hal_base.specs.declared.pages.SetId.{SetId}
use Rattle.memory_shelf.specs.Shelved.{places_of, pages_of, is_set}

-- as many pages as places
many_if : (b : Bool) (at : ℕ) (p : List ℕ) (xs : List ℕ) (ys : List (List ℕ)) → length ys ≡ length xs → length (cond b (p ∷ ys) ys) ≡ length (cond b (at ∷ xs) xs)
many_if true at p xs ys is = ap suc is
many_if false at p xs ys is = is

pub as_many : (set : SetId) (at : ℕ) (owners : List SetId) (pages : List (List ℕ)) → length pages ≡ length owners → length (pages_of set owners pages) ≡ length (places_of set at owners)
unfolding pages_of places_of
as_many set at [] pages is = refl
as_many set at (o ∷ os) [] is = absurd (omega (arith, is))
as_many set at (o ∷ os) (p ∷ ps) is = many_if (is_set o set) at p (places_of set (at + 1) os) (pages_of set os ps) (as_many set (at + 1) os ps (omega (arith, is)))

few_if : (b : Bool) (at n : ℕ) (xs : List ℕ) → length xs ≤ n → length (cond b (at ∷ xs) xs) ≤ n + 1
few_if true at n xs le = omega (arith, le)
few_if false at n xs le = omega (arith, le)

pub few_places : (set : SetId) (at : ℕ) (owners : List SetId) → length (places_of set at owners) ≤ length owners
unfolding places_of
few_places set at [] = omega arith
few_places set at (o ∷ os) = omega (arith, few_if (is_set o set) at (length os) (places_of set (at + 1) os) (few_places set (at + 1) os))

pub free_rise : (from at n : ℕ) → from ≤ at → rises_from from (range_with_len at n) ≡ true
free_rise from at zero le = refl
free_rise from at (suc n) le = and_from (nat_le from at) (rises_from (at + 1) (range_with_len (at + 1) n)) (le-leb from at le) (free_rise (at + 1) (at + 1) n (omega arith))

-- all that a shelf promises of its pages
whole_if : (b : Bool) (p : List ℕ) (ys : List (List ℕ)) → length p ≡ 4096 → All (λ page. length page ≡ 4096) ys → All (λ page. length page ≡ 4096) (cond b (p ∷ ys) ys)
whole_if true p ys here rest = All-cons (λ (page : List ℕ). length page ≡ 4096) p ys here rest
whole_if false p ys here rest = rest

pages_whole : (set : SetId) (owners : List SetId) (pages : List (List ℕ)) → All (λ page. length page ≡ 4096) pages → All (λ page. length page ≡ 4096) (pages_of set owners pages)
unfolding pages_of
pages_whole set [] pages whole = All-nil (λ (page : List ℕ). length page ≡ 4096)
pages_whole set (o ∷ os) [] whole = All-nil (λ (page : List ℕ). length page ≡ 4096)
pages_whole set (o ∷ os) (p ∷ ps) whole = whole_if (is_set o set) p (pages_of set os ps) (whole 0 p (omega arith)) (pages_whole set os ps (λ k d in_it. whole (suc k) d (omega (arith, in_it))))

pub pages_fit : (set : SetId) (owners : List SetId) (held : List (List ℕ)) → length held ≡ length owners → All (λ page. length page ≡ 4096) held
    → (length (pages_of set owners held) ≡ length (places_of set 0 owners)) × All (λ page. length page ≡ 4096) (pages_of set owners held)
pages_fit set owners held many whole = (as_many set 0 owners held many, pages_whole set owners held whole)

pub few_in_all : (set : SetId) (owners : List SetId) (count : ℕ) → length owners ≤ count → count ≤ 65536
    → length (places_of set 0 owners) + length (range_with_len (length owners) (count - length owners)) ≤ 65536
few_in_all set owners count within near = omega (arith, few_places set 0 owners, length-range_with_len (length owners) (count - length owners), within, near)
