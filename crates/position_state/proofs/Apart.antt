-- Elements of a view that are apart: each is found at its own place, and those that go are none of those that stay.
use Rattle.std.proofs.Common.{◌≡◌, ℕ, Bool, true, false, not, cond, ◌&&◌, ◌||◌, List, [], ◌∷◌, ◌++◌, Option, None, Some, refl, sym, ap, ◌∙◌}
use Rattle.std.specs.Prelude.{filter, find, IfSome}
use Rattle.std.specs.List.{list_all, list_any, last_or, AllByRecursion}
use Rattle.std.proofs.lemmas.Bool.{and_parts, and_from, or_from, or_left, or_right, not-true}
use Rattle.std.proofs.lemmas.List.Folds.{list_any-append, list_all-append}
use Rattle.std.proofs.lemmas.Slice.Eq.{bytes_eq-Decides}
use Rattle.hal_schema.specs.Row.{same_name}
use Rattle.hal_schema.specs.Forest.{all_pairs}
use Rattle.hal_schema.proofs.RowNames.{name_itself}
use Rattle.position_state.specs.declared.session.Anchor.{Anchor}
use Rattle.position_state.specs.declared.session.Anchor.TheVariants.{Front, At}
use Rattle.position_state.specs.declared.spot.Spot.{Spot}
use Rattle.position_state.specs.View.{is_at, same_place, same_entry, all_before}
use Rattle.position_state.proofs.Cuts.{whole, is_left}

-- ---- tests over lists

all_weaker : {X : Type 0} (p q : X → Bool) → ((x : X) → p x ≡ true → q x ≡ true) → (xs : List X) → list_all p xs ≡ true → list_all q xs ≡ true
all_weaker p q w [] h = refl
all_weaker p q w (x ∷ xs) h =
    let a = and_parts (p x) (list_all p xs) h in
    and_from (q x) (list_all q xs) (w x a.0) (all_weaker p q w xs a.1)

all_both : {X : Type 0} (p q r : X → Bool) → ((x : X) → p x ≡ true → q x ≡ true → r x ≡ true) → (xs : List X) → list_all p xs ≡ true → list_all q xs ≡ true → list_all r xs ≡ true
all_both p q r w [] a b = refl
all_both p q r w (x ∷ xs) a b =
    let c = and_parts (p x) (list_all p xs) a in
    let d = and_parts (q x) (list_all q xs) b in
    and_from (r x) (list_all r xs) (w x c.0 d.0) (all_both p q r w xs c.1 d.1)

all_parts : {X : Type 0} (p : X → Bool) (xs ys : List X) → list_all p (xs ++ ys) ≡ true → (list_all p xs ≡ true) × (list_all p ys ≡ true)
all_parts p xs ys h = and_parts (list_all p xs) (list_all p ys) (sym (list_all-append p xs ys) ∙ h)

-- of a list in two parts, what holds of each two holds across, and within the second part
across : {X : Type 0} (t : X → X → Bool) (xs ys : List X) → all_pairs t (xs ++ ys) ≡ true → (list_all (λ x. list_all (t x) ys) xs ≡ true) × (all_pairs t ys ≡ true)
across t [] ys h = (refl, h)
across t (x ∷ xs) ys h =
    let a = and_parts (list_all (t x) (xs ++ ys)) (all_pairs t (xs ++ ys)) h in
    let rest = across t xs ys a.1 in
    (and_from (list_all (t x) ys) (list_all (λ y. list_all (t y) ys) xs) (all_parts (t x) xs ys a.0).1 rest.0, rest.1)

-- ---- places

place_itself : (at : Anchor) → same_place at at ≡ true
place_itself Front = refl
place_itself (At name root entry) = and_from (same_name name name) (same_entry entry entry) (name_itself name) (by entry)
  where
    by : (entry : Option (List ℕ)) → same_entry entry entry ≡ true
    by None = refl
    by (Some key) = (bytes_eq-Decides key key).1 refl

-- neither is at the place of the other
abbrev pub apart : Spot → Spot → Bool
apart a b = not (is_at a.at b) && not (is_at b.at a)

all_there : (xs : List Spot) → list_all (λ s. list_any (is_at s.at) xs) xs ≡ true
all_there [] = refl
all_there (x ∷ xs) =
    and_from (is_at x.at x || list_any (is_at x.at) xs) (list_all (λ s. is_at s.at x || list_any (is_at s.at) xs) xs)
    (or_left (is_at x.at x) (list_any (is_at x.at) xs) (place_itself x.at))
    (all_weaker (λ s. list_any (is_at s.at) xs) (λ s. is_at s.at x || list_any (is_at s.at) xs) (λ s h. or_right (is_at s.at x) (list_any (is_at s.at) xs) h) xs (all_there xs))

none_of : (x : Spot) (ys : List Spot) → list_all (apart x) ys ≡ true → list_any (is_at x.at) ys ≡ false
none_of x [] h = refl
none_of x (y ∷ ys) h =
    let a = and_parts (apart x y) (list_all (apart x) ys) h in
    or_from (is_at x.at y) (list_any (is_at x.at) ys) (not-true (is_at x.at y) (and_parts (not (is_at x.at y)) (not (is_at y.at x)) a.0).0) (none_of x ys a.1)

-- none of the second part is at the place of one of the first
none_before : (xs ys : List Spot) → list_all (λ x. list_all (apart x) ys) xs ≡ true → list_all (λ y. not (list_any (is_at y.at) xs)) ys ≡ true
none_before [] ys h = each ys
  where
    each : (ys : List Spot) → list_all (λ (y : Spot). not false) ys ≡ true
    each [] = refl
    each (y ∷ ys) = each ys
none_before (x ∷ xs) ys h =
    let a = and_parts (list_all (apart x) ys) (list_all (λ z. list_all (apart z) ys) xs) h in
    all_both (apart x) (λ y. not (list_any (is_at y.at) xs)) (λ y. not (is_at y.at x || list_any (is_at y.at) xs))
    (λ y b c. ap not (or_from (is_at y.at x) (list_any (is_at y.at) xs) (not-true (is_at y.at x) (and_parts (not (is_at x.at y)) (not (is_at y.at x)) b).1) (not-true (list_any (is_at y.at) xs) c)))
    ys a.0 (none_before xs ys a.1)

pub parts_gone : (front below rest : List Spot) (d : Spot) → all_pairs apart (whole front d below rest) ≡ true → list_all (λ x. not (is_left front rest x)) (d ∷ below) ≡ true
parts_gone front below rest d h =
    let a = across apart front (d ∷ (below ++ rest)) h in
    let b = across apart (d ∷ below) rest a.1 in
    all_both (λ y. not (list_any (is_at y.at) front)) (λ x. list_all (apart x) rest) (λ x. not (is_left front rest x))
    (λ x c e. ap not (list_any-append (is_at x.at) front rest ∙ or_from (list_any (is_at x.at) front) (list_any (is_at x.at) rest) (not-true (list_any (is_at x.at) front) c) (none_of x rest e)))
    (d ∷ below) (all_parts (λ y. not (list_any (is_at y.at) front)) (d ∷ below) rest (none_before front (d ∷ (below ++ rest)) a.0)).0 b.0

pub parts_left : (front rest : List Spot) → (list_all (is_left front rest) front ≡ true) × (list_all (is_left front rest) rest ≡ true)
parts_left front rest = all_parts (is_left front rest) front rest (all_there (front ++ rest))

-- ---- each is found at its own place

abbrev pub IsFoundIn : List Spot → Spot → Type 0
IsFoundIn view s = find (is_at s.at) view ≡ Some s

found_behind : (x : Spot) (xs ys : List Spot) → list_all (apart x) ys ≡ true → AllByRecursion (IsFoundIn xs) ys → AllByRecursion (IsFoundIn (x ∷ xs)) ys
found_behind x xs [] h k = k
found_behind x xs (y ∷ ys) h k =
    let a = and_parts (apart x y) (list_all (apart x) ys) h in
    let b = not-true (is_at y.at x) (and_parts (not (is_at x.at y)) (not (is_at y.at x)) a.0).1 in
    (ap (λ c. cond c (Some x) (find (is_at y.at) xs)) b ∙ k.0, found_behind x xs ys a.1 k.1)

pub all_themselves : (xs : List Spot) → all_pairs apart xs ≡ true → AllByRecursion (IsFoundIn xs) xs
all_themselves [] h = tt
all_themselves (x ∷ xs) h =
    let a = and_parts (list_all (apart x) xs) (all_pairs apart xs) h in
    (ap (λ c. cond c (Some x) (find (is_at x.at) xs)) (place_itself x.at), found_behind x xs xs a.0 (all_themselves xs a.1))

before_each : (P : Spot → Type 0) (at : Anchor) (xs : List Spot) → AllByRecursion P xs → AllByRecursion P (all_before at xs)
before_each P at [] h = h
before_each P at (x ∷ xs) h = by (is_at at x) (before_each P at xs h.1)
  where
    by : (b : Bool) → AllByRecursion P (all_before at xs) → AllByRecursion P (cond b [] (x ∷ all_before at xs))
    by true rest = tt
    by false rest = (h.0, rest)

pub last_each : (P : Spot → Type 0) (p : Spot → Bool) (xs : List Spot) (o : Option Spot) → IfSome o P → AllByRecursion P xs → IfSome (last_or o (filter p xs)) P
last_each P p [] o h k = h
last_each P p (x ∷ xs) o h k = by (p x) (λ o h. last_each P p xs o h k.1)
  where
    by : (c : Bool) → ((o : Option Spot) → IfSome o P → IfSome (last_or o (filter p xs)) P) → IfSome (last_or o (cond c (x ∷ filter p xs) (filter p xs))) P
    by true rest = rest (Some x) k.0
    by false rest = rest o h

-- the last of those before a place that pass a test is found at its own place
pub last_is_found : (view : List Spot) (p : Spot → Bool) (at : Anchor) → all_pairs apart view ≡ true → IfSome (last_or None (filter p (all_before at view))) (IsFoundIn view)
last_is_found view p at h = last_each (IsFoundIn view) p (all_before at view) None tt (before_each (IsFoundIn view) at view (all_themselves view h))
