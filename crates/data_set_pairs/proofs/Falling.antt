-- What putting numbers in order, each once, keeps of them.
use Rattle.std.proofs.Common.{◌≡◌, ◌∙◌, ℕ, suc, ◌+◌, ◌≤◌, ◌==◌, ◌&&◌, ◌||◌, not, Bool, true, false, cond, List, [], ◌∷◌, ◌++◌, length, length-append, map, reverse, refl, sym, ap, arith}
use Rattle.std.specs.Prelude.{filter}
use Rattle.std.specs.List.{list_any, dedup, dedup_from}
use Rattle.std.proofs.lemmas.Bool.{eqb-true}
use Rattle.std.proofs.lemmas.List.{length-map, length-reverse}
use Rattle.data_set_pairs.specs.declared.place.PagePlace.{PagePlace}

or_same : (a b : Bool) → (a || (a || b)) ≡ (a || b)
or_same true b = refl
or_same false b = refl

any_dedup_if : (test : ℕ → Bool) (e : Bool) (k x : ℕ) (a b : List ℕ) (rest : Bool) → (e ≡ true → x ≡ k) → list_any test a ≡ (test k || rest) → list_any test b ≡ (test x || rest) → list_any test (cond e a (k ∷ b)) ≡ (test k || (test x || rest))
any_dedup_if test true k x a b rest same left right = left ∙ sym (or_same (test k) rest) ∙ ap (λ (n : ℕ). test k || (test n || rest)) (sym (same refl))
any_dedup_if test false k x a b rest same left right = ap (λ (r : Bool). test k || r) right

any_dedup_from : (test : ℕ → Bool) (k : ℕ) (xs : List ℕ) → list_any test (dedup_from (λ a b. a == b) k xs) ≡ (test k || list_any test xs)
any_dedup_from test k [] = refl
any_dedup_from test k (x ∷ xs) = any_dedup_if test (x == k) k x (dedup_from (λ a b. a == b) k xs) (dedup_from (λ a b. a == b) x xs) (list_any test xs) (eqb-true x k) (any_dedup_from test k xs) (any_dedup_from test x xs)

pub any_dedup : (test : ℕ → Bool) (xs : List ℕ) → list_any test (dedup (λ a b. a == b) xs) ≡ list_any test xs
any_dedup test [] = refl
any_dedup test (x ∷ xs) = any_dedup_from test x xs

any_if : {X : Type 0} (test : X → Bool) (b : Bool) (x : X) (xs : List X) (rest : Bool) → list_any test xs ≡ rest → list_any test (cond b (x ∷ xs) xs) ≡ (b && test x || rest)
any_if test true x xs rest is = ap (λ (r : Bool). test x || r) is
any_if test false x xs rest is = is

pub any_filter : {X : Type 0} (f test : X → Bool) (xs : List X) → list_any test (filter f xs) ≡ list_any (λ x. f x && test x) xs
any_filter f test [] = refl
any_filter f test (x ∷ xs) = any_if test (f x) x (filter f xs) (list_any (λ x. f x && test x) xs) (any_filter f test xs)

any_map : (test : ℕ → Bool) (ps : List PagePlace) → list_any test (map (λ p. p.block) ps) ≡ list_any (λ p. test p.block) ps
any_map test [] = refl
any_map test (p ∷ ps) = ap (λ (b : Bool). test p.block || b) (any_map test ps)

pub any_blocks : (test : ℕ → Bool) (f : PagePlace → Bool) (ps : List PagePlace) → list_any test (map (λ p. p.block) (filter f ps)) ≡ list_any (λ p. f p && test p.block) ps
any_blocks test f ps = any_map test (filter f ps) ∙ any_filter f (λ (p : PagePlace). test p.block) ps

both_if : (b : Bool) (p : PagePlace) (xs ys : List PagePlace) (n : ℕ) → length xs + length ys ≡ n → length (cond (not b) (p ∷ xs) xs) + length (cond b (p ∷ ys) ys) ≡ suc n
both_if true p xs ys n is = omega (arith, is)
both_if false p xs ys n is = omega (arith, is)

both : (f : PagePlace → Bool) (ps : List PagePlace) → length (filter (λ p. not (f p)) ps) + length (filter f ps) ≡ length ps
both f [] = refl
both f (p ∷ ps) = both_if (f p) p (filter (λ p. not (f p)) ps) (filter f ps) (length ps) (both f ps)

pub few_left : (f : PagePlace → Bool) (pages : List PagePlace) (free : List ℕ) (more : List PagePlace) (left all : List ℕ) → more ≡ filter (λ p. not (f p)) pages → all ≡ free ++ map (λ p. p.block) (filter f pages) → length left ≤ length all → length more + length (reverse left) ≤ length pages + length (reverse free)
few_left f pages free more left all kept is few =
    omega (arith, ap (λ (l : List PagePlace). length l) kept, ap (λ (l : List ℕ). length l) is, length-append free (map (λ (p : PagePlace). p.block) (filter f pages)), length-map (filter f pages) (λ (p : PagePlace). p.block), both f pages, few, length-reverse left, length-reverse free)
