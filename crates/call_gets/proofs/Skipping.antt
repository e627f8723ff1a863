-- What a scan finds after a step.
use Rattle.std.proofs.Common.{◌≡◌, ℕ, ◌<◌, ◌≤◌, Bool, true, false, not, cond, ◌&&◌, List, [], ◌∷◌, ◌++◌, Option, None, Some, refl, sym, ap, ◌∙◌, arith}
use Rattle.std.specs.Prelude.{nat_le, nat_lt, filter, IfSome}
use Rattle.std.specs.List.{last_or, list_all}
use Rattle.std.proofs.lemmas.Bool.{and_parts, and_from, ltb-true, ltb-false, leb-true, le-leb, lt-ltb, le-ltb}
use Rattle.std.proofs.lemmas.List.{append_assoc, append-nil}
use Rattle.std.proofs.lemmas.List.Elements.{filter-append}
use Rattle.std.proofs.lemmas.List.Folds.{list_all-append}
use Rattle.hal_schema.specs.Paths.{path_with, with_paths}
use Rattle.position_state.specs.declared.spot.Spot.{Spot}
use Rattle.position_state.specs.View.{behind}
use Rattle.dli_calls.specs.Gets.{OnPath}
use Rattle.call_gets.specs.Scan.{from_on, is_inside, first_inside}

abbrev pub level : Spot → ℕ
level spot = spot.level

-- what of a path is above a level
abbrev pub kept : ℕ → List Spot → List Spot
kept l path = filter (λ above. nat_lt above.level l) path

-- ---- filters by level

pub kept_low : (m l : ℕ) (xs : List Spot) → list_all (λ x. nat_le x.level m) xs ≡ true → m < l → kept l xs ≡ xs
kept_low m l [] h lt = refl
kept_low m l (x ∷ xs) h lt =
    let a = and_parts (nat_le x.level m) (list_all (λ x. nat_le x.level m) xs) h in
    let low : x.level < l = omega (arith, leb-true x.level m a.0, lt) in
    ap (λ b. cond b (x ∷ kept l xs) (kept l xs)) (lt-ltb x.level l low) ∙ ap (λ (r : List Spot). x ∷ r) (kept_low m l xs a.1 lt)

pub kept_none : (m l : ℕ) (xs : List Spot) → list_all (λ x. nat_lt m x.level) xs ≡ true → l ≤ m → kept l xs ≡ []
kept_none m l [] h le = refl
kept_none m l (x ∷ xs) h le =
    let a = and_parts (nat_lt m x.level) (list_all (λ x. nat_lt m x.level) xs) h in
    let high : l ≤ x.level = omega (arith, ltb-true m x.level a.0, le) in
    ap (λ b. cond b (x ∷ kept l xs) (kept l xs)) (le-ltb x.level l high) ∙ kept_none m l xs a.1 le

pub kept_kept : (t l : ℕ) (xs : List Spot) → t ≤ l → kept t (kept l xs) ≡ kept t xs
kept_kept t l [] le = refl
kept_kept t l (x ∷ xs) le = by (nat_lt x.level l) refl (kept_kept t l xs le)
  where
    by : (b : Bool) → nat_lt x.level l ≡ b → kept t (kept l xs) ≡ kept t xs → kept t (cond b (x ∷ kept l xs) (kept l xs)) ≡ kept t (x ∷ xs)
    by true h rest = ap (λ (r : List Spot). cond (nat_lt x.level t) (x ∷ r) r) rest
    by false h rest =
        let off : nat_lt x.level t ≡ false = le-ltb x.level t (omega (arith, ltb-false x.level l h, le)) in
        rest ∙ ap (λ b. cond b (x ∷ kept t xs) (kept t xs)) (sym off)

pub all_kept : (m l : ℕ) (xs : List Spot) → list_all (λ x. nat_lt m x.level) xs ≡ true → list_all (λ x. nat_lt m x.level) (kept l xs) ≡ true
all_kept m l [] h = refl
all_kept m l (x ∷ xs) h =
    let a = and_parts (nat_lt m x.level) (list_all (λ x. nat_lt m x.level) xs) h in
    by (nat_lt x.level l) a.0 (all_kept m l xs a.1)
  where
    by : (b : Bool) → nat_lt m x.level ≡ true → list_all (λ x. nat_lt m x.level) (kept l xs) ≡ true → list_all (λ x. nat_lt m x.level) (cond b (x ∷ kept l xs) (kept l xs)) ≡ true
    by true first rest = and_from (nat_lt m x.level) (list_all (λ x. nat_lt m x.level) (kept l xs)) first rest
    by false first rest = rest

pub kept_is_low : (l : ℕ) (xs : List Spot) → list_all (λ x. nat_le x.level l) (kept l xs) ≡ true
kept_is_low l [] = refl
kept_is_low l (x ∷ xs) = by (nat_lt x.level l) refl (kept_is_low l xs)
  where
    by : (b : Bool) → nat_lt x.level l ≡ b → list_all (λ x. nat_le x.level l) (kept l xs) ≡ true → list_all (λ x. nat_le x.level l) (cond b (x ∷ kept l xs) (kept l xs)) ≡ true
    by true h rest = and_from (nat_le x.level l) (list_all (λ x. nat_le x.level l) (kept l xs)) (le-leb x.level l (omega (arith, ltb-true x.level l h))) rest
    by false h rest = rest

-- ---- steps

-- beyond what it stays inside a scan finds nothing
pub outside : (top : Option ℕ) (test : OnPath → Bool) (view path : List Spot) (s : Spot) → is_inside top s ≡ false → first_inside top test (with_paths level path (from_on view (Some s))) ≡ None
outside top test view path s h =
    let p : List Spot = path_with level path s in
    ap (λ b. cond (not b) None (cond (test (p, s)) (Some (p, s)) (first_inside top test (with_paths level p (behind s.at view))))) h

pub meets_here : (top : Option ℕ) (test : OnPath → Bool) (view path : List Spot) (s : Spot) → is_inside top s ≡ true → test (path_with level path s, s) ≡ true
    → first_inside top test (with_paths level path (from_on view (Some s))) ≡ Some (path_with level path s, s)
meets_here top test view path s h k =
    let p : List Spot = path_with level path s in
    let rest : Option OnPath = first_inside top test (with_paths level p (behind s.at view)) in
    ap (λ b. cond (not b) None (cond (test (p, s)) (Some (p, s)) rest)) h ∙ ap (λ b. cond b (Some (p, s)) rest) k

pub goes_below : (top : Option ℕ) (test : OnPath → Bool) (view path : List Spot) (s : Spot) → is_inside top s ≡ true → test (path_with level path s, s) ≡ false
    → first_inside top test (with_paths level path (from_on view (Some s))) ≡ first_inside top test (with_paths level (path_with level path s) (behind s.at view))
goes_below top test view path s h k =
    let p : List Spot = path_with level path s in
    let rest : Option OnPath = first_inside top test (with_paths level p (behind s.at view)) in
    ap (λ b. cond (not b) None (cond (test (p, s)) (Some (p, s)) rest)) h ∙ ap (λ b. cond b (Some (p, s)) rest) k

pub last_end : (o : Option Spot) (ys zs : List Spot) (x : Spot) → last_or o (ys ++ (zs ++ x ∷ [])) ≡ Some x
last_end o [] [] x = refl
last_end o [] (z ∷ zs) x = last_end (Some z) [] zs x
last_end o (y ∷ ys) zs x = last_end (Some y) ys zs x

-- an element behind a path, where the path goes on with what is deeper than its own end
pub record Deeper (path more : List Spot) (m : ℕ) (x : Spot) : Type 0 where
  pub more' : List Spot
  pub next : path_with level (path ++ more) x ≡ path ++ more'
  pub deeper : list_all (λ x. nat_lt m x.level) more' ≡ true
  pub last : last_or None (path ++ more') ≡ Some x

pub deeper_on : (path : List Spot) (m : ℕ) (more : List Spot) (x : Spot) → ((l : ℕ) → m < l → kept l path ≡ path) → list_all (λ x. nat_lt m x.level) more ≡ true → nat_lt m x.level ≡ true → Deeper path more m x
deeper_on path m more x stays h lt = record {
  more' = kept x.level more ++ x ∷ [];
  next = ap (λ (r : List Spot). r ++ x ∷ [])
      (filter-append (λ (y : Spot). nat_lt y.level x.level) path more ∙ ap (λ (r : List Spot). r ++ kept x.level more) (stays x.level (ltb-true m x.level lt)))
      ∙ append_assoc path (kept x.level more) (x ∷ []);
  deeper = list_all-append (λ (x : Spot). nat_lt m x.level) (kept x.level more) (x ∷ [])
      ∙ and_from (list_all (λ x. nat_lt m x.level) (kept x.level more)) (nat_lt m x.level && true) (all_kept m x.level more h) (and_from (nat_lt m x.level) true lt refl);
  last = last_end None path (kept x.level more) x;
}

pub same_next : (above path : List Spot) (m : ℕ) (more : List Spot) (t : Spot) → ((l : ℕ) → l ≤ m → kept l path ≡ kept l above) → list_all (λ x. nat_lt m x.level) more ≡ true → t.level ≤ m → kept t.level (path ++ more) ≡ kept t.level above
same_next above path m more t same h high =
    filter-append (λ (x : Spot). nat_lt x.level t.level) path more
    ∙ ap (λ r. kept t.level path ++ r) (kept_none m t.level more h high)
    ∙ append-nil (kept t.level path) ∙ same t.level high

-- a test of each path from an element on
abbrev pub all_on : (List Spot → Bool) → List OnPath → Bool
all_on goes ps = list_all (λ (p : OnPath). goes p.0) ps

-- what is deeper than a path, none of which passes the test, is passed over
pub skip : (top : Option ℕ) (test : OnPath → Bool) (goes : List Spot → Bool) (view above path : List Spot) (m : ℕ) (more deep : List Spot) (next : Option Spot)
    → ((l : ℕ) → m < l → kept l path ≡ path)
    → ((l : ℕ) → l ≤ m → kept l path ≡ kept l above)
    → list_all (λ x. nat_lt m x.level) more ≡ true
    → list_all (λ x. nat_lt m x.level) deep ≡ true
    → ((x : Spot) → m < x.level → is_inside top x ≡ true)
    → ((more : List Spot) (x : Spot) → goes (path ++ more) ≡ true → last_or None (path ++ more) ≡ Some x → m < x.level → test (path ++ more, x) ≡ false)
    → IfSome next (λ t. t.level ≤ m)
    → all_on goes (with_paths level (path ++ more) (deep ++ from_on view next)) ≡ true
    → first_inside top test (with_paths level (path ++ more) (deep ++ from_on view next)) ≡ first_inside top test (with_paths level above (from_on view next))
skip top test goes view above path m more [] None stays same h k inside fails high on = refl
skip top test goes view above path m more [] (Some t) stays same h k inside fails high on =
    ap (λ (r : List Spot). first_inside top test ((r ++ t ∷ [], t) ∷ with_paths level (r ++ t ∷ []) (behind t.at view))) (same_next above path m more t same h high)
skip top test goes view above path m more (x ∷ xs) next stays same h k inside fails high on =
    let a = and_parts (nat_lt m x.level) (list_all (λ x. nat_lt m x.level) xs) k in
    let rest : List Spot = xs ++ from_on view next in
    let d = deeper_on path m more x stays h a.0 in
    let g = and_parts (goes (path_with level (path ++ more) x)) (all_on goes (with_paths level (path_with level (path ++ more) x) rest)) on in
    ap (λ (r : List Spot). first_inside top test ((r, x) ∷ with_paths level r rest)) d.next
    ∙ ap (λ b. cond (not b) None (cond (test (path ++ d.more', x)) (Some (path ++ d.more', x)) (first_inside top test (with_paths level (path ++ d.more') rest)))) (inside x (ltb-true m x.level a.0))
    ∙ ap (λ b. cond b (Some (path ++ d.more', x)) (first_inside top test (with_paths level (path ++ d.more') rest))) (fails d.more' x (ap goes (sym d.next) ∙ g.0) d.last (ltb-true m x.level a.0))
    ∙ skip top test goes view above path m d.more' xs next stays same d.deeper a.1 inside fails high (ap (λ (r : List Spot). all_on goes (with_paths level r rest)) (sym d.next) ∙ g.1)

-- what passed over it is still so behind it
pub skip_all : (goes : List Spot → Bool) (view above path : List Spot) (m : ℕ) (more deep : List Spot) (next : Option Spot)
    → ((l : ℕ) → m < l → kept l path ≡ path)
    → ((l : ℕ) → l ≤ m → kept l path ≡ kept l above)
    → list_all (λ x. nat_lt m x.level) more ≡ true
    → list_all (λ x. nat_lt m x.level) deep ≡ true
    → IfSome next (λ t. t.level ≤ m)
    → all_on goes (with_paths level (path ++ more) (deep ++ from_on view next)) ≡ true
    → all_on goes (with_paths level above (from_on view next)) ≡ true
skip_all goes view above path m more [] None stays same h k high on = refl
skip_all goes view above path m more [] (Some t) stays same h k high on =
    ap (λ (r : List Spot). all_on goes ((r ++ t ∷ [], t) ∷ with_paths level (r ++ t ∷ []) (behind t.at view))) (sym (same_next above path m more t same h high)) ∙ on
skip_all goes view above path m more (x ∷ xs) next stays same h k high on =
    let a = and_parts (nat_lt m x.level) (list_all (λ x. nat_lt m x.level) xs) k in
    let rest : List Spot = xs ++ from_on view next in
    let d = deeper_on path m more x stays h a.0 in
    let g = and_parts (goes (path_with level (path ++ more) x)) (all_on goes (with_paths level (path_with level (path ++ more) x) rest)) on in
    skip_all goes view above path m d.more' xs next stays same d.deeper a.1 high (ap (λ (r : List Spot). all_on goes (with_paths level r rest)) (sym d.next) ∙ g.1)
