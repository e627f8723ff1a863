-- A test of all words.
use Rattle.std.proofs.Common.{◌≡◌, ℕ, zero, suc, ◌<◌, Bool, true, false, ◌&&◌, List, [], ◌∷◌, length, get_or, map, refl, sym, ap, ◌∙◌, arith}
use Rattle.std.specs.List.{list_all}

-- one that fails a test
pub one_fails : {X Y : Type 0} (p : Y → Bool) (f : X → Y) (xs : List X) (i : ℕ) (x : X) → i < length xs → x ≡ get_or xs i x → p (f x) ≡ false → false ≡ list_all p (map f xs)
one_fails p f [] i x l r e = absurd (omega arith)
one_fails p f (y ∷ xs) zero x l r e = sym (ap (λ z. p (f z) && list_all p (map f xs)) (sym r) ∙ ap (λ b. b && list_all p (map f xs)) e)
one_fails p f (y ∷ xs) (suc i) x l r e = by (p (f y)) (one_fails p f xs i x (omega arith) r e)
  where
    by : (b : Bool) → false ≡ list_all p (map f xs) → false ≡ (b && list_all p (map f xs))
    by true h = h
    by false h = refl
