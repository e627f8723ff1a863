-- What stands in a new row behind its cursor.
use Rattle.std.proofs.Common.{◌≡◌, ◌∙◌, ℕ, suc, ◌+◌, ◌-◌, ◌∷◌, ap, drop, replicate, arith}
use Rattle.std.proofs.lemmas.List.{drop-replicate}

pub zeros_past : (k a b c d e f g : ℕ) → drop (8 + k) (a ∷ b ∷ c ∷ d ∷ e ∷ f ∷ g ∷ replicate 121 0) ≡ replicate (120 - k) 0
zeros_past k a b c d e f g =
    let many : 8 + k ≡ suc (suc (suc (suc (suc (suc (suc (1 + k))))))) = omega arith in
    let left : 121 - (1 + k) ≡ 120 - k = omega arith in
    ap (λ (n : ℕ). drop n (a ∷ b ∷ c ∷ d ∷ e ∷ f ∷ g ∷ replicate 121 0)) many ∙ drop-replicate (1 + k) 121 0 ∙ ap (λ (n : ℕ). replicate n 0) left
