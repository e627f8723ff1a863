-- Lists no two items of which are the same, and whose items are put in order.
use Rattle.std.proofs.Common.{◌≡◌, Bool, true, false, ◌&&◌, ◌||◌, not, cond, List, [], ◌∷◌, ◌++◌, map, Option, Some, None, refl, sym, ap, ◌∙◌}
use Rattle.std.specs.Prelude.{filter, filter_map}
use Rattle.std.specs.List.{list_any, cons_option}
use Rattle.std.specs.Bool.{Decides, one_answer}
use Rattle.std.proofs.lemmas.Bool.{and_parts, and_from, or_from, not_from_false}
use Rattle.hal_schema.specs.Lawful.{all_differ}
use Rattle.hal_schema.specs.Raw.{put_in_order, in_order}

or_swap : (a b c : Bool) → (a || (b || c)) ≡ (b || (a || c))
or_swap true true c = refl
or_swap true false c = refl
or_swap false b c = refl

differ_swap : (s a b d : Bool) → (not (s || a) && (not b && d)) ≡ (not (s || b) && (not a && d))
differ_swap true a b d = refl
differ_swap false true true d = refl
differ_swap false true false d = refl
differ_swap false false true d = refl
differ_swap false false false d = refl

any-put : {X : Type 0} (p : X → Bool) (goes : X → X → Bool) (x : X) (ys : List X) → list_any p (put_in_order goes x ys) ≡ (p x || list_any p ys)
any-put p goes x [] = refl
any-put p goes x (y ∷ ys) = by (goes y x) (any-put p goes x ys)
  where
    by : (b : Bool) → list_any p (put_in_order goes x ys) ≡ (p x || list_any p ys) → list_any p (cond b (y ∷ put_in_order goes x ys) (x ∷ y ∷ ys)) ≡ (p x || (p y || list_any p ys))
    by true e = ap (λ c. p y || c) e ∙ or_swap (p y) (p x) (list_any p ys)
    by false e = refl

any-order : {X : Type 0} (p : X → Bool) (goes : X → X → Bool) (xs : List X) → list_any p (in_order goes xs) ≡ list_any p xs
any-order p goes [] = refl
any-order p goes (x ∷ xs) = any-put p goes x (in_order goes xs) ∙ ap (λ c. p x || c) (any-order p goes xs)

differ-put : {X : Type 0} (same : X → X → Bool) (goes : X → X → Bool) → ((a b : X) → same a b ≡ same b a) → (x : X) (ys : List X) → all_differ same (put_in_order goes x ys) ≡ all_differ same (x ∷ ys)
differ-put same goes turn x [] = refl
differ-put same goes turn x (y ∷ ys) = by (goes y x) (differ-put same goes turn x ys)
  where
    by : (b : Bool) → all_differ same (put_in_order goes x ys) ≡ all_differ same (x ∷ ys) → all_differ same (cond b (y ∷ put_in_order goes x ys) (x ∷ y ∷ ys)) ≡ all_differ same (x ∷ y ∷ ys)
    by false e = refl
    by true e =
        ap (λ c. not c && all_differ same (put_in_order goes x ys)) (any-put (same y) goes x ys ∙ ap (λ c. c || list_any (same y) ys) (turn y x))
        ∙ ap (λ c. not (same x y || list_any (same y) ys) && c) e ∙ differ_swap (same x y) (list_any (same y) ys) (list_any (same x) ys) (all_differ same ys)

-- the order of the items does not matter
pub differ-order : {X : Type 0} (same : X → X → Bool) (goes : X → X → Bool) → ((a b : X) → same a b ≡ same b a) → (xs : List X) → all_differ same (in_order goes xs) ≡ all_differ same xs
differ-order same goes turn [] = refl
differ-order same goes turn (x ∷ xs) =
    differ-put same goes turn x (in_order goes xs) ∙ ap (λ c. not c && all_differ same (in_order goes xs)) (any-order (same x) goes xs) ∙ ap (λ c. not (list_any (same x) xs) && c) (differ-order same goes turn xs)

-- what is found for items that differ differs
or_none : (a b : Bool) → (a || b) ≡ false → (a ≡ false) × (b ≡ false)
or_none true b h = cc
or_none false b h = (refl, h)

not_so : (b : Bool) → not b ≡ true → b ≡ false
not_so true h = cc
not_so false h = refl

pub record AgreesOn {X Y : Type 0} (like : X → X → Bool) (same : Y → Y → Bool) (f : X → Option Y) : Type 0 where
  pub agrees : (a b : X) (c d : Y) → f a ≡ Some c → f b ≡ Some d → same c d ≡ like a b

none-found : {X Y : Type 0} (like : X → X → Bool) (same : Y → Y → Bool) (f : X → Option Y) → AgreesOn like same f → (x : X) (c : Y) → f x ≡ Some c → (ys : List X) → list_any (like x) ys ≡ false → list_any (same c) (filter_map f ys) ≡ false
none-found like same f on x c e [] h = refl
none-found {X} {Y} like same f on x c e (y ∷ ys) h = by (f y) refl (none-found like same f on x c e ys (or_none _ _ h).1)
  where
    by : (o : Option Y) → f y ≡ o → list_any (same c) (filter_map f ys) ≡ false → list_any (same c) (cons_option o (filter_map f ys)) ≡ false
    by None g rest = rest
    by (Some d) g rest = or_from _ _ (on.agrees x y c d e g ∙ (or_none _ _ h).0) rest

pub differ-found : {X Y : Type 0} (like : X → X → Bool) (same : Y → Y → Bool) (f : X → Option Y) → AgreesOn like same f → (xs : List X) → all_differ like xs ≡ true → all_differ same (filter_map f xs) ≡ true
differ-found like same f on [] h = refl
differ-found {X} {Y} like same f on (x ∷ xs) h = by (f x) refl (differ-found like same f on xs (and_parts _ _ h).1)
  where
    by : (o : Option Y) → f x ≡ o → all_differ same (filter_map f xs) ≡ true → all_differ same (cons_option o (filter_map f xs)) ≡ true
    by None g rest = rest
    by (Some c) g rest = and_from _ _ (not_from_false _ (none-found like same f on x c g xs (not_so _ (and_parts _ _ h).0))) rest

-- a test that decides equality may be turned
pub turn : {X : Type 0} (same : X → X → Bool) → ((a b : X) → Decides (same a b) (a ≡ b)) → (a b : X) → same a b ≡ same b a
turn same tells a b = one_answer (same a b) (same b a) (tells a b) ((λ e. sym ((tells b a).0 e)), (λ p. (tells b a).1 (sym p)))

-- of some items, those that pass differ in name, also behind other names; of what is found for them, those that pass differ too
pub record Picks {X Y N : Type 0} (f : X → Option Y) (q : X → Bool) (r : Y → Bool) (g : X → N) (h : Y → N) : Type 0 where
  pub picked : (x : X) (y : Y) → f x ≡ Some y → r y ≡ true → q x ≡ true
  pub named : (x : X) (y : Y) → f x ≡ Some y → h y ≡ g x

any_rest : {X N : Type 0} (p : N → Bool) (g : X → N) (b : Bool) (x : X) (rest : List X) → list_any p (map g (cond b (x ∷ rest) rest)) ≡ false → list_any p (map g rest) ≡ false
any_rest p g true x rest e = (or_none _ _ e).1
any_rest p g false x rest e = e

any_here : {X N : Type 0} (p : N → Bool) (g : X → N) (b : Bool) (x : X) (rest : List X) → b ≡ true → list_any p (map g (cond b (x ∷ rest) rest)) ≡ false → p (g x) ≡ false
any_here p g true x rest t e = (or_none _ _ e).0
any_here p g false x rest t e = cc

any-picked : {X Y N : Type 0} (p : N → Bool) (f : X → Option Y) (q : X → Bool) (r : Y → Bool) (g : X → N) (h : Y → N) → Picks f q r g h → (xs : List X)
    → list_any p (map g (filter q xs)) ≡ false → list_any p (map h (filter r (filter_map f xs))) ≡ false
any-picked p f q r g h on [] e = refl
any-picked {X} {Y} {N} p f q r g h on (x ∷ xs) e = by (f x) refl (any-picked p f q r g h on xs (any_rest p g (q x) x (filter q xs) e))
  where
    keep : (y : Y) → f x ≡ Some y → (b : Bool) → r y ≡ b → list_any p (map h (filter r (filter_map f xs))) ≡ false → list_any p (map h (cond b (y ∷ filter r (filter_map f xs)) (filter r (filter_map f xs)))) ≡ false
    keep y s false t rest = rest
    keep y s true t rest = or_from _ _ (ap p (on.named x y s) ∙ any_here p g (q x) x (filter q xs) (on.picked x y s t) e) rest

    by : (o : Option Y) → f x ≡ o → list_any p (map h (filter r (filter_map f xs))) ≡ false → list_any p (map h (filter r (cons_option o (filter_map f xs)))) ≡ false
    by None s rest = rest
    by (Some y) s rest = keep y s (r y) refl rest

differ_rest : {X N : Type 0} (same : N → N → Bool) (g : X → N) (b : Bool) (x : X) (rest : List X) → all_differ same (map g (cond b (x ∷ rest) rest)) ≡ true → all_differ same (map g rest) ≡ true
differ_rest same g true x rest e = (and_parts _ _ e).1
differ_rest same g false x rest e = e

differ_here : {X N : Type 0} (same : N → N → Bool) (g : X → N) (b : Bool) (x : X) (rest : List X) → b ≡ true → all_differ same (map g (cond b (x ∷ rest) rest)) ≡ true → list_any (same (g x)) (map g rest) ≡ false
differ_here same g true x rest t e = not_so _ (and_parts _ _ e).0
differ_here same g false x rest t e = cc

differ-picked : {X Y N : Type 0} (same : N → N → Bool) (f : X → Option Y) (q : X → Bool) (r : Y → Bool) (g : X → N) (h : Y → N) → Picks f q r g h → (xs : List X)
    → all_differ same (map g (filter q xs)) ≡ true → all_differ same (map h (filter r (filter_map f xs))) ≡ true
differ-picked same f q r g h on [] e = refl
differ-picked {X} {Y} {N} same f q r g h on (x ∷ xs) e = by (f x) refl (differ-picked same f q r g h on xs (differ_rest same g (q x) x (filter q xs) e))
  where
    keep : (y : Y) → f x ≡ Some y → (b : Bool) → r y ≡ b → all_differ same (map h (filter r (filter_map f xs))) ≡ true → all_differ same (map h (cond b (y ∷ filter r (filter_map f xs)) (filter r (filter_map f xs)))) ≡ true
    keep y s false t rest = rest
    keep y s true t rest =
        let none = any-picked (same (g x)) f q r g h on xs (differ_here same g (q x) x (filter q xs) (on.picked x y s t) e) in
        and_from _ _ (not_from_false _ (ap (λ n. list_any (same n) (map h (filter r (filter_map f xs)))) (on.named x y s) ∙ none)) rest

    by : (o : Option Y) → f x ≡ o → all_differ same (map h (filter r (filter_map f xs))) ≡ true → all_differ same (map h (filter r (cons_option o (filter_map f xs)))) ≡ true
    by None s rest = rest
    by (Some y) s rest = keep y s (r y) refl rest

any-behind : {N : Type 0} (p : N → Bool) (names xs ys : List N) → (list_any p xs ≡ false → list_any p ys ≡ false) → list_any p (names ++ xs) ≡ false → list_any p (names ++ ys) ≡ false
any-behind p [] xs ys w e = w e
any-behind p (n ∷ names) xs ys w e = let d = or_none (p n) (list_any p (names ++ xs)) e in or_from _ _ d.0 (any-behind p names xs ys w d.1)

pub differ-behind : {X Y N : Type 0} (same : N → N → Bool) (f : X → Option Y) (q : X → Bool) (r : Y → Bool) (g : X → N) (h : Y → N) → Picks f q r g h → (names : List N) (xs : List X)
    → all_differ same (names ++ map g (filter q xs)) ≡ true → all_differ same (names ++ map h (filter r (filter_map f xs))) ≡ true
differ-behind same f q r g h on [] xs e = differ-picked same f q r g h on xs e
differ-behind same f q r g h on (n ∷ names) xs e =
    let d = and_parts (not (list_any (same n) (names ++ map g (filter q xs)))) (all_differ same (names ++ map g (filter q xs))) e in
    and_from _ _ (not_from_false _ (any-behind (same n) names (map g (filter q xs)) (map h (filter r (filter_map f xs))) (any-picked (same n) f q r g h on xs) (not_so _ d.0))) (differ-behind same f q r g h on names xs d.1)
