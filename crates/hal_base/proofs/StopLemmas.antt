-- How what a stop may leave goes on over several calls.
use Rattle.std.proofs.Common.{◌≡◌, ⊎_elim, ℕ, List, sym, subst, arith}
use Rattle.std.proofs.lemmas.Bool.{cases_lt}
use Rattle.hal_base.specs.Stops.{LeavesOnly, Read}

-- before the first call
pub not_yet : {X : Type 0} (now : ℕ) (at : ℕ → X → List ℕ → Type 0) (P : X → List ℕ → Type 0) → LeavesOnly now now at at P
not_yet now at P = record { later = omega arith; same = λ m x s le left. left; each = λ m x s low high left. absurd (omega (arith, low, high)) }

-- a weaker fact
pub leaves-weaken : {X : Type 0} {a b : ℕ} {past at : ℕ → X → List ℕ → Type 0} {P Q : X → List ℕ → Type 0} → LeavesOnly a b past at P → ((x : X) (s : List ℕ) → P x s → Q x s) → LeavesOnly a b past at Q
leaves-weaken only so = record { later = only.later; same = only.same; each = λ m x s low high left. so x s (only.each m x s low high left) }

-- what a stop after the calls leaves, where what one before them leaves has P too
pub leaves-now : {X : Type 0} {a b : ℕ} {past at : ℕ → X → List ℕ → Type 0} {P : X → List ℕ → Type 0} → LeavesOnly a b past at P → ((x : X) (s : List ℕ) → past a x s → P x s) → (x : X) (s : List ℕ) → at b x s → P x s
leaves-now {X} {a} {b} {past} {at} {P} only before x s left = ⊎_elim (λ lt. only.each b x s lt (omega arith) left) (λ le. before x s (here (omega (arith, le, only.later)))) (cases_lt a b)
  where
    here : a ≡ b → past a x s
    here is = only.same a x s (omega arith) (subst (λ (m : ℕ). at m x s) (sym is) left)

-- more calls, which leave what has P too
pub leaves-then : {X : Type 0} {a b c : ℕ} {past mid at : ℕ → X → List ℕ → Type 0} {P Q : X → List ℕ → Type 0} → LeavesOnly a b past mid P → LeavesOnly b c mid at Q → ((x : X) (s : List ℕ) → Q x s → P x s) → LeavesOnly a c past at P
leaves-then {X} {a} {b} {c} {past} {mid} {at} {P} {Q} first second so = record {
  later = omega (arith, first.later, second.later);
  same = λ m x s le left. first.same m x s le (second.same m x s (omega (arith, le, first.later)) left);
  each = λ m x s low high left. ⊎_elim (λ lt. so x s (second.each m x s lt high left)) (λ le. first.each m x s low le (second.same m x s le left)) (cases_lt b m);
}

-- a call that leaves nothing new
pub leaves-stay : {X : Type 0} {a b c : ℕ} {past mid at : ℕ → X → List ℕ → Type 0} {P : X → List ℕ → Type 0} → LeavesOnly a b past mid P → LeavesOnly b c mid at (mid b) → ((x : X) (s : List ℕ) → past a x s → P x s) → LeavesOnly a c past at P
leaves-stay first second before = leaves-then first second (leaves-now first before)

pub leaves-read : {X Y : Type 0} {a b : ℕ} {past at : ℕ → X → List ℕ → Type 0} {P : X → List ℕ → Type 0} (f : X → Y) (Q : Y → List ℕ → Type 0) → LeavesOnly a b past at P → ((x : X) (s : List ℕ) → P x s → Q (f x) s) → LeavesOnly a b (Read f past) (Read f at) Q
leaves-read {X} {Y} {a} {b} {past} {at} {P} f Q only so = record {
  later = only.later;
  same = λ m y s le left. (left.0, only.same m left.0 s le left.1, left.2);
  each = λ m y s low high left. subst (λ (y : Y). Q y s) (sym left.2) (so left.0 s (only.each m left.0 s low high left.1));
}
