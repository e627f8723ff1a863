-- A loop over items and their numbers from 1.
use Rattle.std.proofs.Common.{◌≡◌, ℕ, zero, suc, ◌+◌, ◌<◌, List, [], ◌∷◌, ◌++◌, length, get_or, take, map, Bool, refl, sym, ap, ◌∙◌, arith}
use Rattle.std.specs.Prelude.{flat_map}
use Rattle.std.specs.List.{enumerate_from, list_all}
use Rattle.std.proofs.lemmas.List.Concat.{flat_map-append}
use Rattle.std.proofs.lemmas.List.{append-nil}

enumerate_more : {X : Type 0} (xs : List X) (n i : ℕ) (d : X) → i < length xs → enumerate_from n (take (suc i) xs) ≡ enumerate_from n (take i xs) ++ (n + i, get_or xs i d) ∷ []
enumerate_more [] n i d l = absurd (omega arith)
enumerate_more (x ∷ xs) n zero d l = let m : n ≡ n + 0 = omega arith in ap (λ k. (k, x) ∷ []) m
enumerate_more (x ∷ xs) n (suc i) d l =
    let m : (n + 1) + i ≡ n + suc i = omega arith in
    ap (λ ys. (n, x) ∷ ys) (enumerate_more xs (n + 1) i d (omega arith) ∙ ap (λ k. enumerate_from (n + 1) (take i xs) ++ (k, get_or xs i d) ∷ []) m)

-- one more item, whose number is one more than its place
pub numbered_more : {X A : Type 0} (g : ℕ × X → List A) (xs : List X) (i : ℕ) (x : X) → i < length xs → x ≡ get_or xs i x
    → flat_map g (enumerate_from 1 (take (i + 1) xs)) ≡ flat_map g (enumerate_from 1 (take i xs)) ++ g (i + 1, x)
numbered_more g xs i x l e =
    let s : i + 1 ≡ suc i = omega arith in
    let m : 1 + i ≡ i + 1 = omega arith in
    ap (λ k. flat_map g (enumerate_from 1 (take k xs))) s
    ∙ ap (flat_map g) (enumerate_more xs 1 i x l)
    ∙ flat_map-append g (enumerate_from 1 (take i xs)) ((1 + i, get_or xs i x) ∷ [])
    ∙ ap (λ ys. flat_map g (enumerate_from 1 (take i xs)) ++ ys) (append-nil (g (1 + i, get_or xs i x)))
    ∙ ap (λ k. flat_map g (enumerate_from 1 (take i xs)) ++ g (k, get_or xs i x)) m
    ∙ ap (λ y. flat_map g (enumerate_from 1 (take i xs)) ++ g (i + 1, y)) (sym e)

-- the items changed one by one
pub numbered-map : {X Y : Type 0} (p : ℕ × Y → Bool) (f : X → Y) (n : ℕ) (xs : List X) → list_all p (enumerate_from n (map f xs)) ≡ list_all (λ (x : ℕ × X). p (x.0, f x.1)) (enumerate_from n xs)
numbered-map p f n [] = refl
numbered-map p f n (x ∷ xs) = grind (arith, numbered-map p f (n + 1) xs)
