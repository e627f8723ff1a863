-- The test of two homes, as an equation.
use Rattle.std.proofs.Common.{◌≡◌, ◌≢◌, ◌==◌, Bool, true, false, ◌||◌, List, [], ◌∷◌, refl, sym, ap, ◌∙◌}
use Rattle.std.specs.List.{list_all, list_any}
use Rattle.std.proofs.lemmas.Bool.{and_parts, and_from, and_left, eqb-true, eq-eqb, ne_eqb, or_left, or_right}
use Rattle.volume_rules.specs.View.{Home, same_home}

pub home_is : (a b : Home) → same_home a b ≡ true → a ≡ b
home_is a b h =
    let p = and_parts (a.number == b.number) (a.addr == b.addr) h in
    let number : a.number ≡ b.number = eqb-true a.number b.number p.0 in
    let addr : a.addr ≡ b.addr = eqb-true a.addr b.addr p.1 in
    λ i. record { number = number i; addr = addr i }

pub home_itself : (a : Home) → same_home a a ≡ true
home_itself a = and_from (a.number == a.number) (a.addr == a.addr) (eq-eqb a.number a.number refl) (eq-eqb a.addr a.addr refl)

-- homes of two generations are two homes
pub numbers_differ : (a b : Home) → a.number ≢ b.number → same_home a b ≡ false
numbers_differ a b ne = and_left (a.number == b.number) (a.addr == b.addr) (ne_eqb a.number b.number ne)

-- what passes a test somewhere among homes
pub any_at : (test : Home → Bool) (homes : List Home) (home : Home) → list_any (same_home home) homes ≡ true → test home ≡ true → list_any test homes ≡ true
any_at test [] home among h = cc
any_at test (x ∷ homes) home among h = go (same_home home x) refl among (any_at test homes home)
  where
    go : (b : Bool) → same_home home x ≡ b → (b || list_any (same_home home) homes) ≡ true → (list_any (same_home home) homes ≡ true → test home ≡ true → list_any test homes ≡ true)
        → (test x || list_any test homes) ≡ true
    go true e among more = or_left (test x) (list_any test homes) (ap test (sym (home_is home x e)) ∙ h)
    go false e among more = or_right (test x) (list_any test homes) (more among h)

-- where a test fails at each home among them, it fails at all
pub none_at : (test : Home → Bool) (homes : List Home) → ((home : Home) → list_any (same_home home) homes ≡ true → test home ≡ false) → list_any test homes ≡ false
none_at test [] each = refl
none_at test (x ∷ homes) each =
    let here : test x ≡ false = each x (or_left (same_home x x) (list_any (same_home x) homes) (home_itself x)) in
    ap (λ b. b || list_any test homes) here ∙ none_at test homes (λ home among. each home (or_right (same_home home x) (list_any (same_home home) homes) among))

-- what holds of each of the homes holds of one among them
pub each_at : (test : Home → Bool) (homes : List Home) → list_all test homes ≡ true → (home : Home) → list_any (same_home home) homes ≡ true → test home ≡ true
each_at test [] all home among = cc
each_at test (x ∷ homes) all home among =
    let parts = and_parts (test x) (list_all test homes) all in
    go (same_home home x) refl among parts.0 (each_at test homes parts.1 home)
  where
    go : (b : Bool) → same_home home x ≡ b → (b || list_any (same_home home) homes) ≡ true → test x ≡ true → (list_any (same_home home) homes ≡ true → test home ≡ true) → test home ≡ true
    go true e among first more = ap test (home_is home x e) ∙ first
    go false e among first more = more among
