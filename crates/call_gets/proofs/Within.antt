-- What a GNP looks at: while the parent is on the path, what is deeper than it.
use Rattle.std.proofs.Common.{◌≡◌, ℕ, ◌==◌, ◌<◌, ◌≤◌, Bool, true, false, not, cond, ◌&&◌, ◌||◌, ◌⊎◌, inl, inr, List, [], ◌∷◌, ◌++◌, Option, None, Some, refl, sym, ap, ◌∙◌, arith}
use Rattle.std.specs.Prelude.{nat_lt, filter, find, All}
use Rattle.std.specs.List.{list_all, list_any}
use Rattle.std.proofs.lemmas.Bool.{and_parts, and_from, or_parts, or_from, or_cases, or_left, or_right, eq-eqb, eqb-true, ltb-true, ltb-false}
use Rattle.std.proofs.lemmas.List.Folds.{list_any-append, list_all-append}
use Rattle.hal_schema.specs.Paths.{path_with, path_after, with_paths}
use Rattle.position_state.specs.declared.session.Anchor.{Anchor}
use Rattle.position_state.specs.declared.spot.Spot.{Spot}
use Rattle.position_state.specs.declared.session.Anchor.TheVariants.{Front, At}
use Rattle.position_state.specs.View.{is_at, same_place, same_entry}
use Rattle.position_state.specs.Looks.{found_at}
use Rattle.hal_schema.specs.Row.{same_name}
use Rattle.hal_schema.proofs.RowNames.{name_is}
use Rattle.std.proofs.lemmas.Slice.Eq.{bytes_eq-Decides}
use Rattle.std.proofs.lemmas.List.{append_assoc}
use Rattle.std.proofs.lemmas.List.Elements.{All-head, All-tail}
use Rattle.call_gets.proofs.Stepping.{Differ}
use Rattle.dli_calls.specs.Gets.{OnPath, is_below_parent}
use Rattle.call_gets.specs.Scan.{IsFound, first_inside}
use Rattle.call_gets.proofs.Skipping.{level, kept}

-- the elements of a path that pass a test are of this level
abbrev pub of_level : (Spot → Bool) → ℕ → Spot → Bool
of_level test m z = not (test z) || (z.level == m)

some_kept : (test : Spot → Bool) (m l : ℕ) (xs : List Spot) → list_all (of_level test m) xs ≡ true → m < l → list_any test (kept l xs) ≡ list_any test xs
some_kept test m l [] h lt = refl
some_kept test m l (x ∷ xs) h lt =
    let a = and_parts (of_level test m x) (list_all (of_level test m) xs) h in
    by (test x) refl a.0 (nat_lt x.level l) refl (some_kept test m l xs a.1 lt)
  where
    by : (t : Bool) → test x ≡ t → (not t || (x.level == m)) ≡ true → (b : Bool) → nat_lt x.level l ≡ b → list_any test (kept l xs) ≡ list_any test xs
        → list_any test (cond b (x ∷ kept l xs) (kept l xs)) ≡ (test x || list_any test xs)
    by t k o true e rest = ap (λ c. test x || c) rest
    by true k o false e rest = absurd (omega (arith, eqb-true x.level m o, ltb-false x.level l e, lt))
    by false k o false e rest = rest ∙ sym (ap (λ c. c || list_any test xs) k)

none_kept : (test : Spot → Bool) (m l : ℕ) (xs : List Spot) → list_all (of_level test m) xs ≡ true → l ≤ m → list_any test (kept l xs) ≡ false
none_kept test m l [] h le = refl
none_kept test m l (x ∷ xs) h le =
    let a = and_parts (of_level test m x) (list_all (of_level test m) xs) h in
    by (test x) refl a.0 (nat_lt x.level l) refl (none_kept test m l xs a.1 le)
  where
    by : (t : Bool) → test x ≡ t → (not t || (x.level == m)) ≡ true → (b : Bool) → nat_lt x.level l ≡ b → list_any test (kept l xs) ≡ false → list_any test (cond b (x ∷ kept l xs) (kept l xs)) ≡ false
    by t k o false e rest = rest
    by true k o true e rest = absurd (omega (arith, eqb-true x.level m o, ltb-true x.level l e, le))
    by false k o true e rest = or_from (test x) (list_any test (kept l xs)) k rest

pub all_kept : (test : Spot → Bool) (l : ℕ) (xs : List Spot) → list_all test xs ≡ true → list_all test (kept l xs) ≡ true
all_kept test l [] h = refl
all_kept test l (x ∷ xs) h =
    let a = and_parts (test x) (list_all test xs) h in
    by (nat_lt x.level l) a.0 (all_kept test l xs a.1)
  where
    by : (b : Bool) → test x ≡ true → list_all test (kept l xs) ≡ true → list_all test (cond b (x ∷ kept l xs) (kept l xs)) ≡ true
    by true f rest = and_from (test x) (list_all test (kept l xs)) f rest
    by false f rest = rest

pub none_fails : (test : Spot → Bool) (l : ℕ) (xs : List Spot) → list_any test xs ≡ false → list_any test (kept l xs) ≡ false
none_fails test l [] h = refl
none_fails test l (x ∷ xs) h =
    let a = or_parts (test x) (list_any test xs) h in
    by (nat_lt x.level l) (none_fails test l xs a.1)
  where
    by : (b : Bool) → list_any test (kept l xs) ≡ false → list_any test (cond b (x ∷ kept l xs) (kept l xs)) ≡ false
    by true rest = or_from (test x) (list_any test (kept l xs)) (or_parts (test x) (list_any test xs) h).0 rest
    by false rest = rest

joined : (test : Spot → Bool) (path : List Spot) (x : Spot) (b : Bool) → list_any test (kept x.level path) ≡ b → test x ≡ false → list_any test (path_with level path x) ≡ b
joined test path x b h f = list_any-append test (kept x.level path) (x ∷ []) ∙ ap (λ c. list_any test (kept x.level path) || (c || false)) f ∙ by b h
  where
    by : (b : Bool) → list_any test (kept x.level path) ≡ b → (list_any test (kept x.level path) || false) ≡ b
    by true k = ap (λ c. c || false) k
    by false k = ap (λ c. c || false) k

-- where the parent is neither on the path nor ahead, nothing is below it
pub gone : (parent : Anchor) (path ys : List Spot) → list_any (is_at parent) path ≡ false → list_any (is_at parent) ys ≡ false → filter (is_below_parent (Some parent)) (with_paths level path ys) ≡ []
gone parent path [] p h = refl
gone parent path (x ∷ xs) p h =
    let a = or_parts (is_at parent x) (list_any (is_at parent) xs) h in
    let next : List Spot = path_with level path x in
    let q : list_any (is_at parent) next ≡ false = joined (is_at parent) path x false (none_fails (is_at parent) x.level path p) a.0 in
    ap (λ b. cond (b && not (is_at parent x)) ((next, x) ∷ filter (is_below_parent (Some parent)) (with_paths level next xs)) (filter (is_below_parent (Some parent)) (with_paths level next xs))) q
    ∙ gone parent next xs q a.1

-- where it is on the path and not ahead, what is below it is what is deeper, up to the first that isn't
pub within : (parent : Anchor) (test : OnPath → Bool) (m : ℕ) (path ys : List Spot) → list_any (is_at parent) path ≡ true → list_all (of_level (is_at parent) m) path ≡ true → list_any (is_at parent) ys ≡ false
    → find test (filter (is_below_parent (Some parent)) (with_paths level path ys)) ≡ first_inside (Some m) test (with_paths level path ys)
within parent test m path [] p o h = refl
within parent test m path (x ∷ xs) p o h =
    by (nat_lt m x.level) refl (λ q k. within parent test m (path_with level path x) xs q k (or_parts (is_at parent x) (list_any (is_at parent) xs) h).1)
  where
    next : List Spot
    next = path_with level path x

    rest : List OnPath
    rest = filter (is_below_parent (Some parent)) (with_paths level next xs)

    off : is_at parent x ≡ false
    off = (or_parts (is_at parent x) (list_any (is_at parent) xs) h).0

    levels : list_all (of_level (is_at parent) m) next ≡ true
    levels = list_all-append (of_level (is_at parent) m) (kept x.level path) (x ∷ [])
        ∙ and_from (list_all (of_level (is_at parent) m) (kept x.level path)) (of_level (is_at parent) m x && true) (all_kept (of_level (is_at parent) m) x.level path o)
        (and_from (of_level (is_at parent) m x) true (ap (λ b. not b || (x.level == m)) off) refl)

    by : (b : Bool) → nat_lt m x.level ≡ b → (list_any (is_at parent) next ≡ true → list_all (of_level (is_at parent) m) next ≡ true → find test rest ≡ first_inside (Some m) test (with_paths level next xs))
        → find test (filter (is_below_parent (Some parent)) (with_paths level path (x ∷ xs))) ≡ first_inside (Some m) test (with_paths level path (x ∷ xs))
    by true e goes =
        let q : list_any (is_at parent) next ≡ true = joined (is_at parent) path x true (some_kept (is_at parent) m x.level path o (ltb-true m x.level e) ∙ p) off in
        ap (λ b. find test (cond (b && not (is_at parent x)) ((next, x) ∷ rest) rest)) q ∙ ap (λ b. find test (cond (not b) ((next, x) ∷ rest) rest)) off
        ∙ ap (λ (r : Option OnPath). cond (test (next, x)) (Some (next, x)) r) (goes q levels)
        ∙ ap (λ b. cond (not b) None (cond (test (next, x)) (Some (next, x)) (first_inside (Some m) test (with_paths level next xs)))) (sym e)
    by false e goes =
        let q : list_any (is_at parent) next ≡ false = joined (is_at parent) path x false (none_kept (is_at parent) m x.level path o (ltb-false m x.level e)) off in
        ap (λ b. find test (cond (b && not (is_at parent x)) ((next, x) ∷ rest) rest)) q
        ∙ ap (find test) (gone parent next xs q (or_parts (is_at parent x) (list_any (is_at parent) xs) h).1)
        ∙ ap (λ b. cond (not b) None (cond (test (next, x)) (Some (next, x)) (first_inside (Some m) test (with_paths level next xs)))) (sym e)

-- ---- places

or_false : (b : Bool) → (b || false) ≡ b
or_false true = refl
or_false false = refl

kept_any : (test : Spot → Bool) (l : ℕ) (xs : List Spot) → list_any test (kept l xs) ≡ true → list_any test xs ≡ true
kept_any test l [] h = h
kept_any test l (x ∷ xs) h = by (nat_lt x.level l) (kept_any test l xs) h
  where
    by : (b : Bool) → (list_any test (kept l xs) ≡ true → list_any test xs ≡ true) → list_any test (cond b (x ∷ kept l xs) (kept l xs)) ≡ true → (test x || list_any test xs) ≡ true
    by true rest k = split (or_cases (test x) (list_any test (kept l xs)) k)
      where
        split : (test x ≡ true) ⊎ (list_any test (kept l xs) ≡ true) → (test x || list_any test xs) ≡ true
        split (inl t) = or_left (test x) (list_any test xs) t
        split (inr t) = or_right (test x) (list_any test xs) (rest t)
    by false rest k = or_right (test x) (list_any test xs) (rest k)

pub record AnyParts (test : Spot → Bool) (xs : List Spot) : Type 0 where
  pub front : List Spot
  pub one : Spot
  pub rest : List Spot
  pub is : xs ≡ front ++ one ∷ rest
  pub passes : test one ≡ true

pub any_parts : (test : Spot → Bool) (xs : List Spot) → list_any test xs ≡ true → AnyParts test xs
any_parts test [] h = absurd (let no : ⊥ = cc in no)
any_parts test (x ∷ xs) h = by (test x) refl (any_parts test xs) h
  where
    by : (b : Bool) → test x ≡ b → (list_any test xs ≡ true → AnyParts test xs) → (b || list_any test xs) ≡ true → AnyParts test (x ∷ xs)
    by true k rest t = record { front = []; one = x; rest = xs; is = refl; passes = k }
    by false k rest t = let r = rest t in record { front = x ∷ r.front; one = r.one; rest = r.rest; is = ap (λ (ys : List Spot). x ∷ ys) r.is; passes = r.passes }

entry_itself : (a b : Option (List ℕ)) → same_entry a b ≡ true → b ≡ a
entry_itself None None h = refl
entry_itself None (Some y) h = absurd (let no : ⊥ = cc in no)
entry_itself (Some x) None h = absurd (let no : ⊥ = cc in no)
entry_itself (Some x) (Some y) h = ap (λ k. Some k) (sym ((bytes_eq-Decides x y).0 h))

pub same_as : (a b c : Anchor) → same_place a b ≡ true → same_place a c ≡ same_place b c
same_as Front Front c h = refl
same_as Front (At n r e) c h = absurd (let no : ⊥ = cc in no)
same_as (At n r e) Front c h = absurd (let no : ⊥ = cc in no)
same_as (At n r e) (At n' r' e') Front h = refl
same_as (At n r e) (At n' r' e') (At m s f) h =
    let a = and_parts (same_name n n') (same_entry e e') h in
    ap (λ k. same_name k m && same_entry e f) (name_is n n' a.0) ∙ ap (λ k. same_name n' m && same_entry k f) (sym (entry_itself e e' a.1))

find_agree : (p q : Spot → Bool) → ((x : Spot) → p x ≡ q x) → (xs : List Spot) → find p xs ≡ find q xs
find_agree p q f [] = refl
find_agree p q f (x ∷ xs) = ap (λ b. cond b (Some x) (find p xs)) (f x) ∙ ap (λ (o : Option Spot). cond (q x) (Some x) o) (find_agree p q f xs)

pub any_agree : (p q : Spot → Bool) → ((x : Spot) → p x ≡ q x) → (xs : List Spot) → list_any p xs ≡ list_any q xs
any_agree p q f [] = refl
any_agree p q f (x ∷ xs) = ap (λ b. b || list_any p xs) (f x) ∙ ap (λ b. q x || b) (any_agree p q f xs)

pub found_of : (view : List Spot) (at : Anchor) (z : Spot) → is_at at z ≡ true → IsFound view z → find (is_at at) view ≡ Some z
found_of view at z h f = find_agree (is_at at) (is_at z.at) (λ x. same_as at z.at x.at h) view ∙ by z.at f
  where
    by : (a : Anchor) → found_at a view ≡ Some z → find (is_at a) view ≡ Some z
    by Front k = absurd (let no : ⊥ = cc in no)
    by (At n r e) k = k

-- two elements of a view at one place are one
pub one_place : (view : List Spot) (at : Anchor) (z q : Spot) → is_at at z ≡ true → is_at at q ≡ true → IsFound view z → IsFound view q → z ≡ q
one_place view at z q h k f g = let e : Some z ≡ Some q = sym (found_of view at z h f) ∙ found_of view at q k g in cc

-- those of a path that are at a place are of one level
pub levels_at : (view : List Spot) (at : Anchor) (q : Spot) (path : List Spot) → is_at at q ≡ true → IsFound view q → All (IsFound view) path → list_all (of_level (is_at at) q.level) path ≡ true
levels_at view at q [] h f all = refl
levels_at view at q (z ∷ zs) h f all =
    and_from (of_level (is_at at) q.level z) (list_all (of_level (is_at at) q.level) zs) (by (is_at at z) refl) (levels_at view at q zs h f (All-tail (IsFound view) z zs all))
  where
    by : (b : Bool) → is_at at z ≡ b → (not b || (z.level == q.level)) ≡ true
    by true k = eq-eqb z.level q.level (ap (λ (s : Spot). s.level) (one_place view at z q k h (All-head (IsFound view) z zs all) f))
    by false k = refl

-- a path is of what it was carried along
pub along_any : (test : Spot → Bool) (path xs : List Spot) → list_any test (path_after level path xs) ≡ true → (list_any test path || list_any test xs) ≡ true
along_any test path [] h = or_left (list_any test path) false h
along_any test path (x ∷ xs) h = by (or_cases (list_any test (path_with level path x)) (list_any test xs) (along_any test (path_with level path x) xs h))
  where
    first : (list_any test (kept x.level path) ≡ true) ⊎ ((test x || false) ≡ true) → (list_any test path || (test x || list_any test xs)) ≡ true
    first (inl k) = or_left (list_any test path) (test x || list_any test xs) (kept_any test x.level path k)
    first (inr k) = or_right (list_any test path) (test x || list_any test xs) (or_left (test x) (list_any test xs) (sym (or_false (test x)) ∙ k))

    by : (list_any test (path_with level path x) ≡ true) ⊎ (list_any test xs ≡ true) → (list_any test path || (test x || list_any test xs)) ≡ true
    by (inl k) = first (or_cases (list_any test (kept x.level path)) (test x || false) (sym (list_any-append test (kept x.level path) (x ∷ [])) ∙ k))
    by (inr k) = or_right (list_any test path) (test x || list_any test xs) (or_right (test x) (list_any test xs) k)

-- where an element at a place stands before or at another, none is behind
pub none_behind : (view : List Spot) (at : Anchor) (before behind : List Spot) → Differ view → view ≡ before ++ behind → list_any (is_at at) before ≡ true → list_any (is_at at) behind ≡ false
none_behind view at before behind d e h = by (any_parts (is_at at) before h)
  where
    by : AnyParts (is_at at) before → list_any (is_at at) behind ≡ false
    by p =
        let split : view ≡ p.front ++ p.one ∷ (p.rest ++ behind) = e ∙ ap (λ (xs : List Spot). xs ++ behind) p.is ∙ append_assoc p.front (p.one ∷ p.rest) behind in
        let q = d p.front (p.rest ++ behind) p.one split in
        any_agree (is_at at) (is_at p.one.at) (λ x. same_as at p.one.at x.at p.passes) behind
        ∙ (or_parts (list_any (is_at p.one.at) p.rest) (list_any (is_at p.one.at) behind) (sym (list_any-append (is_at p.one.at) p.rest behind) ∙ q.alone)).1
