-- The order of keys, byte by byte, is total.
use Rattle.std.proofs.Common.{◌≡◌, ◌⊎◌, ℕ, ◌<◌, ◌==◌, Bool, true, false, cond, List, [], ◌∷◌, inl, inr, refl, sym, ap, ◌∙◌, arith}
use Rattle.std.specs.declared.cmp.Ordering.{Ordering}
use Rattle.std.specs.declared.cmp.Ordering.TheVariants.{Less, Equal, Greater}
use Rattle.std.specs.Ordering.{nat_cmp, is_lt, ordering_then}
use Rattle.std.specs.Cmp.Lexicographic.{slice_cmp}
use Rattle.std.proofs.lemmas.Bool.{lt-ltb, le-ltb, eq-eqb, cases_order}
use Rattle.std.proofs.lemmas.Cmp.{nat_list_cmp_total, tied_itself}
use Rattle.keyed_sets.specs.Layout.{is_below}

less_if : (o : Ordering) → is_lt o ≡ true → o ≡ Less
less_if Less is = refl
less_if Equal is = cc
less_if Greater is = cc

pub below_trans : (a b c : List ℕ) → is_below a b ≡ true → is_below b c ≡ true → is_below a c ≡ true
below_trans a b c first second =
    ap is_lt (nat_list_cmp_total.trans a b c (less_if (slice_cmp nat_cmp a b) first) (less_if (slice_cmp nat_cmp b c) second))

pub below_itself : (a b : List ℕ) → is_below a b ≡ true → a ≡ b → ⊥
below_itself a b below same =
    let less : slice_cmp nat_cmp a a ≡ Less = ap (slice_cmp nat_cmp a) same ∙ less_if (slice_cmp nat_cmp a b) below in
    let tied : slice_cmp nat_cmp a a ≡ Equal = tied_itself nat_list_cmp_total a in
    cc

pub below_both : (a b : List ℕ) → is_below a b ≡ true → is_below b a ≡ true → ⊥
below_both a b first second = below_itself a a (below_trans a b a first second) refl

cmp_less : (x y : ℕ) → x < y → nat_cmp x y ≡ Less
cmp_less x y lt = ap (λ (b : Bool). cond b Less (cond (x == y) Equal Greater)) (lt-ltb x y lt)

cmp_same : (x y : ℕ) → x ≡ y → nat_cmp x y ≡ Equal
cmp_same x y is =
    ap (λ (b : Bool). cond b Less (cond (x == y) Equal Greater)) (le-ltb x y (omega arith)) ∙ ap (λ (b : Bool). cond b Equal Greater) (eq-eqb x y is)

behind : (x y : ℕ) (xs ys : List ℕ) → nat_cmp x y ≡ Equal → is_below xs ys ≡ true → is_below (x ∷ xs) (y ∷ ys) ≡ true
behind x y xs ys tie below = ap (λ (o : Ordering). is_lt (ordering_then o (slice_cmp nat_cmp xs ys))) tie ∙ below

ahead : (x y : ℕ) (xs ys : List ℕ) → nat_cmp x y ≡ Less → is_below (x ∷ xs) (y ∷ ys) ≡ true
ahead x y xs ys less = ap (λ (o : Ordering). is_lt (ordering_then o (slice_cmp nat_cmp xs ys))) less

-- two keys are one, or one is below the other
pub three_ways : (a b : List ℕ) → (is_below a b ≡ true) ⊎ ((a ≡ b) ⊎ (is_below b a ≡ true))
three_ways [] [] = inr (inl refl)
three_ways [] (y ∷ ys) = inl refl
three_ways (x ∷ xs) [] = inr (inr refl)
three_ways (x ∷ xs) (y ∷ ys) = elim (cases_order x y) [
  | inl same ↦ elim (three_ways xs ys) [
    | inl below ↦ inl (behind x y xs ys (cmp_same x y same) below)
    | inr (inl is) ↦ inr (inl (ap (λ (h : ℕ). h ∷ xs) same ∙ ap (λ (t : List ℕ). y ∷ t) is))
    | inr (inr above) ↦ inr (inr (behind y x ys xs (cmp_same y x (sym same)) above))
  ]
  | inr (inl lt) ↦ inl (ahead x y xs ys (cmp_less x y lt))
  | inr (inr gt) ↦ inr (inr (ahead y x ys xs (cmp_less y x gt)))
]

not_true : (b : Bool) → b ≡ false → b ≡ true → ⊥
not_true b is so = cc

-- a key that isn't below another is that one, or above it
pub not_below : (a b : List ℕ) → is_below a b ≡ false → (a ≡ b) ⊎ (is_below b a ≡ true)
not_below a b apart = elim (three_ways a b) [
  | inl below ↦ absurd (not_true (is_below a b) apart below)
  | inr other ↦ other
]

pub below_false : (a b : List ℕ) → (is_below a b ≡ true → ⊥) → is_below a b ≡ false
below_false a b apart = if_not (is_below a b) apart
  where
    if_not : (t : Bool) → (t ≡ true → ⊥) → t ≡ false
    if_not true not = absurd (not refl)
    if_not false not = refl

-- below what isn't above a key
pub below_upto : (a b c : List ℕ) → is_below a b ≡ true → is_below c b ≡ false → is_below a c ≡ true
below_upto a b c below apart = elim (not_below c b apart) [
  | inl same ↦ ap (is_below a) same ∙ below
  | inr above ↦ below_trans a b c below above
]

-- above what isn't below a key
pub upto_below : (a b c : List ℕ) → is_below b a ≡ false → is_below b c ≡ true → is_below a c ≡ true
upto_below a b c apart below = elim (not_below b a apart) [
  | inl same ↦ ap (λ (k : List ℕ). is_below k c) (sym same) ∙ below
  | inr above ↦ below_trans a b c above below
]
