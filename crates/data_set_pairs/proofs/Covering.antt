-- A list of pages in the order of their numbers that has each number below its length has each at its own place.
use Rattle.std.proofs.Common.{◌≡◌, ◌∙◌, ⊎_elim, ℕ, zero, suc, ◌+◌, ◌-◌, ◌<◌, ◌≤◌, true, List, length, get_or, sym, ap, arith}
use Rattle.std.specs.Prelude.{◌==◌}
use Rattle.std.specs.List.{list_any}
use Rattle.std.specs.List.Sorted.{IsNonDecreasingBy}
use Rattle.std.proofs.lemmas.Bool.{cases_lt, eqb-true}
use Rattle.std.proofs.lemmas.List.{get_or_default}
use Rattle.std.proofs.lemmas.List.Folds.{Any-from_list_any}
use Rattle.data_set_pairs.specs.declared.place.PagePlace.{PagePlace}

abbrev pub Covers : List PagePlace → Type 0
Covers pages = (n : ℕ) → n < length pages → list_any (λ p. p.page == n) pages ≡ true

-- a place at which a page of this number stands
abbrev At : List PagePlace → ℕ → ℕ → Type 0
At pages n k = (x : PagePlace) × (k < length pages) × (get_or pages k x ≡ x) × (x.page ≡ n)

found : (pages : List PagePlace) → Covers pages → (n : ℕ) → n < length pages → (k : ℕ) × At pages n k
found pages covers n lt = let any = Any-from_list_any (λ (p : PagePlace). p.page == n) pages (covers n lt) in (any.0, (any.1, any.2, any.3, eqb-true any.1.page n any.4))

-- places of numbers rise with them
apart : (pages : List PagePlace) → IsNonDecreasingBy (λ p. p.page) pages → (j k m n : ℕ) → At pages m j → At pages n k → m < n → j < k
apart pages order j k m n low high lt = ⊎_elim (λ less. less) (λ le. absurd (no le)) (cases_lt j k)
  where
    no : k ≤ j → ⊥
    no le =
        let up = order k j high.0 le low.1 in
        let from : get_or pages j high.0 ≡ low.0 = get_or_default pages j high.0 low.0 low.1 ∙ low.2 in
        omega (arith, up, ap (λ (p : PagePlace). p.page) from, ap (λ (p : PagePlace). p.page) high.2, low.3, high.3, lt)

no_lower : (pages : List PagePlace) → IsNonDecreasingBy (λ p. p.page) pages → Covers pages → (n k : ℕ) → n < length pages → At pages n k → n ≤ k
no_lower pages order covers zero k lt at = omega arith
no_lower pages order covers (suc n) k lt at =
    let below : n < length pages = omega (arith, lt) in
    let one = found pages covers n below in
    let less = apart pages order one.0 k n (suc n) one.1 at (omega arith) in
    let up = no_lower pages order covers n one.0 below one.1 in
    omega (arith, less, up)

no_higher : (pages : List PagePlace) → IsNonDecreasingBy (λ p. p.page) pages → Covers pages → (m n k : ℕ) → n + m + 1 ≡ length pages → At pages n k → k ≤ n
no_higher pages order covers zero n k is at = omega (arith, is, at.1)
no_higher pages order covers (suc m) n k is at =
    let above : n + 1 < length pages = omega (arith, is) in
    let one = found pages covers (n + 1) above in
    let more = apart pages order k one.0 n (n + 1) at one.1 (omega arith) in
    let down = no_higher pages order covers m (n + 1) one.0 (omega (arith, is)) one.1 in
    omega (arith, more, down)

pub own_place : (pages : List PagePlace) → IsNonDecreasingBy (λ p. p.page) pages → Covers pages → (n : ℕ) (d : PagePlace) → n < length pages → (get_or pages n d).page ≡ n
own_place pages order covers n d lt =
    let one = found pages covers n lt in
    let low = no_lower pages order covers n one.0 lt one.1 in
    let high = no_higher pages order covers (length pages - (n + 1)) n one.0 (omega (arith, lt)) one.1 in
    let at : one.0 ≡ n = omega (arith, low, high) in
    let here : get_or pages n d ≡ one.1.0 = get_or_default pages n d one.1.0 lt ∙ sym (ap (λ (k : ℕ). get_or pages k one.1.0) at) ∙ one.1.2 in
    ap (λ (p : PagePlace). p.page) here ∙ one.1.3
