-- Lists of places at which nothing is broken.
use Rattle.std.proofs.Common.{◌≡◌, ℕ, suc, ◌≤◌, Bool, true, false, ◌&&◌, ◌||◌, not, cond, List, [], ◌∷◌, ◌++◌, length, map, refl, sym, ap, arith, ◌∙◌}
use Rattle.std.specs.List.{list_all, list_any, flat_map}
use Rattle.std.specs.Str.{bytes_eq}
use Rattle.std.proofs.lemmas.Bool.{and_parts, or_parts, not-true, cond_both}
use Rattle.std.proofs.lemmas.List.{drop_all}
use Rattle.hal_schema.specs.declared.fault.Place.{Place}
use Rattle.hal_schema.specs.declared.rules.names.Named.{Named}
use Rattle.hal_schema.specs.Places.{when, twice, later, passing, is_before}
use Rattle.hal_schema.specs.Lawful.{all_differ}
use Rattle.hal_schema.specs.Raw.{put_in_order, in_order}
use Rattle.hal_schema.specs.Rules.{names_twice}

pub both_none : {X : Type 0} (xs ys : List X) → xs ≡ [] → ys ≡ [] → xs ++ ys ≡ []
both_none {X = X} xs ys e f = ap (λ (zs : List X). zs ++ ys) e ∙ f

pub never : (b : Bool) (at : Place) → b ≡ false → when b at ≡ []
never b at e = ap (λ (b : Bool). cond b (at ∷ []) []) e

pub never_not : (b : Bool) (at : Place) → b ≡ true → when (not b) at ≡ []
never_not b at e = ap (λ (b : Bool). cond (not b) (at ∷ []) []) e

-- each item passes the test
pub none_fails : {X : Type 0} (b : X → Bool) (at : X → Place) (xs : List X) → list_all b xs ≡ true → flat_map (λ (x : X). when (not (b x)) (at x)) xs ≡ []
none_fails b at [] h = refl
none_fails {X = X} b at (x ∷ xs) h =
    let (here, later) = and_parts (b x) (list_all b xs) h in
    both_none (when (not (b x)) (at x)) (flat_map (λ (x : X). when (not (b x)) (at x)) xs) (never_not (b x) (at x) here) (none_fails b at xs later)

pub none_breaks : {X : Type 0} (b : X → Bool) (at : X → Place) (xs : List X) → list_all (λ (x : X). not (b x)) xs ≡ true → flat_map (λ (x : X). when (b x) (at x)) xs ≡ []
none_breaks b at [] h = refl
none_breaks {X = X} b at (x ∷ xs) h =
    let (here, later) = and_parts (not (b x)) (list_all (λ (x : X). not (b x)) xs) h in
    both_none (when (b x) (at x)) (flat_map (λ (x : X). when (b x) (at x)) xs) (never (b x) (at x) (not-true (b x) here)) (none_breaks b at xs later)

any_none : {X : Type 0} (b : X → Bool) (at : X → Place) (xs : List X) → list_any b xs ≡ false → flat_map (λ (x : X). when (b x) (at x)) xs ≡ []
any_none b at [] h = refl
any_none {X = X} b at (x ∷ xs) h =
    let (here, later) = or_parts (b x) (list_any b xs) h in
    both_none (when (b x) (at x)) (flat_map (λ (x : X). when (b x) (at x)) xs) (never (b x) (at x) here) (any_none b at xs later)

-- no two are the same
pub twice_none : {X : Type 0} (same : X → X → Bool) (at : X → Place) (xs : List X) → all_differ same xs ≡ true → twice same at xs ≡ []
twice_none same at [] h = refl
twice_none {X = X} same at (x ∷ xs) h =
    let (here, more) = and_parts (not (list_any (same x) xs)) (all_differ same xs) h in
    both_none (flat_map (λ (y : X). when (same x y) (later (at x) (at y))) xs) (twice same at xs) (any_none (same x) (λ (y : X). later (at x) (at y)) xs (not-true (list_any (same x) xs) here)) (twice_none same at xs more)

any_map : {X Y : Type 0} (p : Y → Bool) (f : X → Y) (xs : List X) → list_any p (map f xs) ≡ list_any (λ (x : X). p (f x)) xs
any_map p f [] = refl
any_map {X = X} p f (x ∷ xs) = ap (λ (b : Bool). p (f x) || b) (any_map p f xs)

pub differ_map : {X Y : Type 0} (same : Y → Y → Bool) (f : X → Y) (xs : List X) → all_differ same (map f xs) ≡ all_differ (λ (a b : X). same (f a) (f b)) xs
differ_map same f [] = refl
differ_map {X = X} same f (x ∷ xs) =
    ap (λ (b : Bool). not b && all_differ same (map f xs)) (any_map (same (f x)) f xs) ∙ ap (λ (b : Bool). not (list_any (λ (y : X). same (f x) (f y)) xs) && b) (differ_map same f xs)

-- of a list of which a part of each item differs
pub twice_none_by : {X Y : Type 0} (same : Y → Y → Bool) (f : X → Y) (at : X → Place) (xs : List X) (ys : List Y) → map f xs ≡ ys → all_differ same ys ≡ true → twice (λ (a b : X). same (f a) (f b)) at xs ≡ []
twice_none_by {X = X} same f at xs ys e h = twice_none (λ (a b : X). same (f a) (f b)) at xs (sym (differ_map same f xs) ∙ ap (all_differ same) e ∙ h)

pub names_none : (named : List Named) (names : List (List ℕ)) → map (λ (n : Named). n.name) named ≡ names → all_differ bytes_eq names ≡ true → names_twice named ≡ []
names_none named names e h = twice_none_by bytes_eq (λ (n : Named). n.name) (λ (n : Named). n.place) named names e h

put_length : {X : Type 0} (goes : X → X → Bool) (x : X) (ys : List X) → length (put_in_order goes x ys) ≡ suc (length ys)
put_length goes x [] = refl
put_length {X = X} goes x (y ∷ ys) = cond_both (goes y x) (y ∷ put_in_order goes x ys) (x ∷ y ∷ ys) (λ (zs : List X). length zs ≡ suc (suc (length ys))) (λ _. ap suc (put_length goes x ys)) (λ _. refl)

order_length : {X : Type 0} (goes : X → X → Bool) (xs : List X) → length (in_order goes xs) ≡ length xs
order_length goes [] = refl
order_length goes (x ∷ xs) = put_length goes x (in_order goes xs) ∙ ap suc (order_length goes xs)

-- no more than so many pass nothing
pub passing_none : (most : ℕ) (places : List Place) → length places ≤ most → passing most places ≡ []
unfolding passing
passing_none most places few =
    let same = order_length is_before places in
    drop_all most (in_order is_before places) (omega (arith, few, same))

pub map_map : {X Y Z : Type 0} (g : Y → Z) (f : X → Y) (xs : List X) → map g (map f xs) ≡ map (λ (x : X). g (f x)) xs
map_map g f [] = refl
map_map {Z = Z} g f (x ∷ xs) = ap (λ (zs : List Z). g (f x) ∷ zs) (map_map g f xs)
