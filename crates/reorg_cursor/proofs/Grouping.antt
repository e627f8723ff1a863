-- Records in groups: the groups have all the records, and what is behind some groups is in the other groups.
use Rattle.std.proofs.Common.{◌≡◌, ℕ, zero, suc, Bool, true, false, not, cond, List, [], ◌∷◌, ◌++◌, take, drop, refl, sym, ap, subst, ◌∙◌, arith}
use Rattle.std.specs.Prelude.{filter, fold, flat_map}
use Rattle.std.specs.List.{list_all}
use Rattle.std.proofs.lemmas.Bool.{and_parts, and_from, not_from_false}
use Rattle.std.proofs.lemmas.List.Folds.{list_all-append}
use Rattle.hal_schema.specs.Forest.{all_pairs}
use Rattle.reorg_cursor.specs.Groups.{Group, members, with_record, grouped}

-- ---- lists

pub all_parts : {X : Type 0} (p : X → Bool) (xs ys : List X) → list_all p (xs ++ ys) ≡ true → (list_all p xs ≡ true) × (list_all p ys ≡ true)
all_parts p xs ys h = and_parts (list_all p xs) (list_all p ys) (sym (list_all-append p xs ys) ∙ h)

pub all_weaker : {X : Type 0} (p q : X → Bool) → ((x : X) → p x ≡ true → q x ≡ true) → (xs : List X) → list_all p xs ≡ true → list_all q xs ≡ true
all_weaker p q w [] h = refl
all_weaker p q w (x ∷ xs) h =
    let a = and_parts (p x) (list_all p xs) h in
    and_from (q x) (list_all q xs) (w x a.0) (all_weaker p q w xs a.1)

-- what two tests say of each item
pub each_of : {X : Type 0} (p t u : X → Bool) → ((y : X) → p y ≡ true → t y ≡ true → u y ≡ true) → (ys : List X) → list_all p ys ≡ true → list_all t ys ≡ true → list_all u ys ≡ true
each_of p t u w [] all h = refl
each_of p t u w (y ∷ ys) all h =
    let a = and_parts (p y) (list_all p ys) all in
    let b = and_parts (t y) (list_all t ys) h in
    and_from (u y) (list_all u ys) (w y a.0 b.0) (each_of p t u w ys a.1 b.1)

pub filter_all : {X : Type 0} (p : X → Bool) (xs : List X) → list_all p xs ≡ true → filter p xs ≡ xs
filter_all p [] h = refl
filter_all p (x ∷ xs) h =
    let a = and_parts (p x) (list_all p xs) h in
    ap (λ b. cond b (x ∷ filter p xs) (filter p xs)) a.0 ∙ ap (λ l. x ∷ l) (filter_all p xs a.1)

pub filter_none : {X : Type 0} (p q : X → Bool) → ((x : X) → q x ≡ true → p x ≡ false) → (xs : List X) → list_all q xs ≡ true → filter p xs ≡ []
filter_none p q w [] h = refl
filter_none p q w (x ∷ xs) h =
    let a = and_parts (q x) (list_all q xs) h in
    ap (λ b. cond b (x ∷ filter p xs) (filter p xs)) (w x a.0) ∙ filter_none p q w xs a.1

-- what the stronger test leaves of a list is what it leaves of what the weaker one left
pub filter_twice : {X : Type 0} (p q : X → Bool) → ((x : X) → q x ≡ false → p x ≡ false) → (xs : List X) → filter p xs ≡ filter p (filter q xs)
filter_twice p q w [] = refl
filter_twice {X} p q w (x ∷ xs) = by (q x) refl (filter_twice p q w xs)
  where
    by : (b : Bool) → q x ≡ b → filter p xs ≡ filter p (filter q xs) → filter p (x ∷ xs) ≡ filter p (cond b (x ∷ filter q xs) (filter q xs))
    by true e ih = ap (λ (l : List X). cond (p x) (x ∷ l) l) ih
    by false e ih = ap (λ b. cond b (x ∷ filter p xs) (filter p xs)) (w x e) ∙ ih

pub filter_passes : {X : Type 0} (p : X → Bool) (xs : List X) → list_all p (filter p xs) ≡ true
filter_passes p [] = refl
filter_passes p (x ∷ xs) = by (p x) refl (filter_passes p xs)
  where
    by : (b : Bool) → p x ≡ b → list_all p (filter p xs) ≡ true → list_all p (cond b (x ∷ filter p xs) (filter p xs)) ≡ true
    by true e ih = and_from (p x) (list_all p (filter p xs)) e ih
    by false e ih = ih

pub all_filter : {X : Type 0} (p q : X → Bool) (xs : List X) → list_all p xs ≡ true → list_all p (filter q xs) ≡ true
all_filter p q [] h = refl
all_filter p q (x ∷ xs) h =
    let a = and_parts (p x) (list_all p xs) h in
    by (q x) a.0 (all_filter p q xs a.1)
  where
    by : (b : Bool) → p x ≡ true → list_all p (filter q xs) ≡ true → list_all p (cond b (x ∷ filter q xs) (filter q xs)) ≡ true
    by true one ih = and_from (p x) (list_all p (filter q xs)) one ih
    by false one ih = ih

pub pairs_filter : {X : Type 0} (t : X → X → Bool) (q : X → Bool) (xs : List X) → all_pairs t xs ≡ true → all_pairs t (filter q xs) ≡ true
pairs_filter t q [] h = refl
pairs_filter t q (x ∷ xs) h =
    let a = and_parts (list_all (t x) xs) (all_pairs t xs) h in
    by (q x) a.0 (pairs_filter t q xs a.1)
  where
    by : (b : Bool) → list_all (t x) xs ≡ true → all_pairs t (filter q xs) ≡ true → all_pairs t (cond b (x ∷ filter q xs) (filter q xs)) ≡ true
    by true one ih = and_from (list_all (t x) (filter q xs)) (all_pairs t (filter q xs)) (all_filter (t x) q xs one) ih
    by false one ih = ih

pub pairs_front : {X : Type 0} (t : X → X → Bool) (xs ys : List X) → all_pairs t (xs ++ ys) ≡ true → all_pairs t xs ≡ true
pairs_front t [] ys h = refl
pairs_front t (x ∷ xs) ys h =
    let a = and_parts (list_all (t x) (xs ++ ys)) (all_pairs t (xs ++ ys)) h in
    and_from (list_all (t x) xs) (all_pairs t xs) (all_parts (t x) xs ys a.0).0 (pairs_front t xs ys a.1)

pub take_none : {X : Type 0} (k : ℕ) → take {A = X} k [] ≡ []
take_none zero = refl
take_none (suc k) = refl

pub drop_none : {X : Type 0} (k : ℕ) → drop {A = X} k [] ≡ []
drop_none zero = refl
drop_none (suc k) = refl

-- ---- groups

joined_with : {X : Type 0} (same : X → X → Bool) (x : X) (groups : List (Group X)) → flat_map members (with_record same x groups) ≡ x ∷ flat_map members groups
joined_with same x [] = refl
joined_with same x (g ∷ groups) = by (same x g.first)
  where
    by : (b : Bool) → flat_map members (cond b (record { first = x; more = members g } ∷ groups) (record { first = x; more = [] } ∷ g ∷ groups)) ≡ x ∷ flat_map members (g ∷ groups)
    by true = refl
    by false = refl

-- the groups have all the records, in their order
pub joined_groups : {X : Type 0} (same : X → X → Bool) (xs : List X) → flat_map members (grouped same xs) ≡ xs
joined_groups same [] = refl
joined_groups same (x ∷ xs) = joined_with same x (grouped same xs) ∙ ap (λ l. x ∷ l) (joined_groups same xs)

abbrev pub roots_of : {X : Type 0} → List (Group X) → List X
roots_of groups = flat_map members groups

abbrev Behind : {X : Type 0} → (X → X → Bool) → ℕ → List (Group X) → Type 0
Behind same n groups = grouped same (roots_of (drop n groups)) ≡ drop n groups

behind_by : {X : Type 0} (same : X → X → Bool) (k : ℕ) (x : X) (g : Group X) (groups : List (Group X)) (b : Bool) → Behind same (suc k) (g ∷ groups) → Behind same k (g ∷ groups)
    → Behind same (suc k) (cond b (record { first = x; more = members g } ∷ groups) (record { first = x; more = [] } ∷ g ∷ groups))
behind_by same k x g groups true more fewer = more
behind_by same k x g groups false more fewer = fewer

behind_with : {X : Type 0} (same : X → X → Bool) (k : ℕ) (x : X) (groups : List (Group X)) → Behind same (suc k) groups → Behind same k groups → Behind same (suc k) (with_record same x groups)
behind_with same k x [] more fewer = fewer
behind_with same k x (g ∷ groups) more fewer = behind_by same k x g groups (same x g.first) more fewer

-- what is behind some groups makes just the other groups
pub groups_behind : {X : Type 0} (same : X → X → Bool) (k : ℕ) (xs : List X) → grouped same (roots_of (drop k (grouped same xs))) ≡ drop k (grouped same xs)
groups_behind same zero xs = ap (grouped same) (joined_groups same xs)
groups_behind same (suc k) [] = refl
groups_behind same (suc k) (x ∷ xs) = behind_with same k x (grouped same xs) (groups_behind same (suc k) xs) (groups_behind same k xs)

-- ---- a mark behind each record

-- What a mark has done: its own record and those before it; of what is behind it nothing that is of another group. `before`
-- is the order of the records.
pub record Marking {X C : Type 0} (done : C → X → Bool) (mark : X → C) (same before : X → X → Bool) : Type 0 where
  pub own : (x : X) → done (mark x) x ≡ true
  pub earlier : (x y : X) → before x y ≡ true → done (mark y) x ≡ true
  pub apart : (x y : X) → before x y ≡ true → same x y ≡ false → done (mark x) y ≡ false
  pub onward : (x y z : X) → before y z ≡ true → done (mark x) y ≡ false → done (mark x) z ≡ false

-- the mark behind records
abbrev pub marked : {X C : Type 0} → (X → C) → C → List X → C
marked mark start xs = fold (λ before x. mark x) start xs

pub marked_has : {X C : Type 0} (mark : X → C) (P : C → Bool) (start : C) (xs : List X) → P start ≡ true → list_all (λ x. P (mark x)) xs ≡ true → P (marked mark start xs) ≡ true
marked_has mark P start [] one all = one
marked_has mark P start (x ∷ xs) one all =
    let a = and_parts (P (mark x)) (list_all (λ x. P (mark x)) xs) all in
    marked_has mark P (mark x) xs a.0 a.1

-- the mark behind records has done them
pub marked_done : {X C : Type 0} (done : C → X → Bool) (mark : X → C) (same before : X → X → Bool) → Marking done mark same before
    → (start : C) (xs : List X) → all_pairs before xs ≡ true → list_all (done (marked mark start xs)) xs ≡ true
marked_done done mark same before m start [] h = refl
marked_done done mark same before m start (x ∷ xs) h =
    let a = and_parts (list_all (before x) xs) (all_pairs before xs) h in
    and_from (done (marked mark (mark x) xs) x) (list_all (done (marked mark (mark x) xs)) xs)
    (marked_has mark (λ c. done c x) (mark x) xs (m.own x) (all_weaker (before x) (λ y. done (mark y) x) (λ y b. m.earlier x y b) xs a.0))
    (marked_done done mark same before m (mark x) xs a.1)

abbrev none_done : {X C : Type 0} → (C → X → Bool) → C → List X → Type 0
none_done done c xs = list_all (λ x. not (done c x)) xs ≡ true

-- nothing behind a record is done with it, where the next one is of another group
apart_from : {X C : Type 0} (done : C → X → Bool) (mark : X → C) (same before : X → X → Bool) → Marking done mark same before
    → (x y : X) (ys : List X) → all_pairs before (x ∷ y ∷ ys) ≡ true → same x y ≡ false → none_done done (mark x) (y ∷ ys)
apart_from done mark same before m x y ys h e =
    let a = and_parts (list_all (before x) (y ∷ ys)) (all_pairs before (y ∷ ys)) h in
    let b = and_parts (before x y) (list_all (before x) ys) a.0 in
    let c = and_parts (list_all (before y) ys) (all_pairs before ys) a.1 in
    let first = m.apart x y b.0 e in
    and_from (not (done (mark x) y)) (list_all (λ z. not (done (mark x) z)) ys) (not_from_false (done (mark x) y) first)
    (all_weaker (before y) (λ z. not (done (mark x) z)) (λ z f. not_from_false (done (mark x) z) (m.onward x y z f first)) ys c.0)

-- the mark behind the first n groups, set off from a mark, has done nothing of the others
abbrev Leaves : {X C : Type 0} → (C → X → Bool) → (X → C) → C → ℕ → List (Group X) → Type 0
Leaves done mark start n groups = none_done done (marked mark start (roots_of (take n groups))) (roots_of (drop n groups))

leaves_by : {X C : Type 0} (done : C → X → Bool) (mark : X → C) (start : C) (k : ℕ) (x : X) (g : Group X) (groups : List (Group X)) (b : Bool)
    → Leaves done mark (mark x) (suc k) (g ∷ groups) → (b ≡ false → Leaves done mark (mark x) k (g ∷ groups))
    → Leaves done mark start (suc k) (cond b (record { first = x; more = members g } ∷ groups) (record { first = x; more = [] } ∷ g ∷ groups))
leaves_by done mark start k x g groups true more fewer = more
leaves_by done mark start k x g groups false more fewer = fewer refl

leaves_with : {X C : Type 0} (done : C → X → Bool) (mark : X → C) (same before : X → X → Bool) → Marking done mark same before
    → (start : C) (k : ℕ) (x : X) (xs : List X) (groups : List (Group X)) → all_pairs before (x ∷ xs) ≡ true → roots_of groups ≡ xs
    → Leaves done mark (mark x) (suc k) groups → ((k ≡ 0 → none_done done (mark x) xs) → Leaves done mark (mark x) k groups) → Leaves done mark start (suc k) (with_record same x groups)
leaves_with {X} done mark same before m start k x xs [] h e more fewer = ap (λ (gs : List (Group X)). list_all (λ y. not (done (marked mark (mark x) (roots_of (take k []))) y)) (roots_of gs)) (drop_none k)
leaves_with {X} done mark same before m start k x xs (g ∷ groups) h e more fewer =
    leaves_by done mark start k x g groups (same x g.first) more
    (λ f. fewer (λ z. subst (λ (l : List X). none_done done (mark x) l) e
    (apart_from done mark same before m x g.first (g.more ++ roots_of groups) (subst (λ (l : List X). all_pairs before (x ∷ l) ≡ true) (sym e) h) f)))

-- the mark behind some groups has done nothing of the others
pub marked_left : {X C : Type 0} (done : C → X → Bool) (mark : X → C) (same before : X → X → Bool) → Marking done mark same before
    → (k : ℕ) (start : C) (xs : List X) → all_pairs before xs ≡ true → (k ≡ 0 → none_done done start xs)
    → none_done done (marked mark start (roots_of (take k (grouped same xs)))) (roots_of (drop k (grouped same xs)))
marked_left done mark same before m zero start xs h none = ap (list_all (λ x. not (done start x))) (joined_groups same xs) ∙ none refl
marked_left done mark same before m (suc k) start [] h none = refl
marked_left done mark same before m (suc k) start (x ∷ xs) h none =
    let a = and_parts (list_all (before x) xs) (all_pairs before xs) h in
    leaves_with done mark same before m start k x xs (grouped same xs) h (joined_groups same xs)
    (marked_left done mark same before m (suc k) (mark x) xs a.1 (λ e. absurd (never k e)))
    (marked_left done mark same before m k (mark x) xs a.1)
  where
    never : (n : ℕ) → suc n ≡ 0 → ⊥
    never n e = omega arith
