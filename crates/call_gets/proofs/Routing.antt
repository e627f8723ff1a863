-- The path to a place of a view, climbed from its end.
use Rattle.std.proofs.Common.{◌≡◌, ℕ, suc, ◌+◌, ◌<◌, ◌≤◌, Bool, true, false, not, cond, ◌&&◌, List, [], ◌∷◌, ◌++◌, drop, Option, None, Some, refl, sym, ap, subst, ◌∙◌, arith}
use Rattle.std.specs.Prelude.{nat_le, nat_lt, find, All}
use Rattle.std.specs.List.{list_all, last_or, position_or_len, after_first}
use Rattle.std.specs.Option.{option_map_or, option_or}
use Rattle.std.proofs.lemmas.Bool.{and_from, ltb-true, ltb-false, le-leb, le-ltb}
use Rattle.std.proofs.lemmas.List.{append_assoc, append-nil}
use Rattle.std.proofs.lemmas.List.Elements.{filter-append, All-nil, All-cons}
use Rattle.std.specs.Str.{bytes_eq}
use Rattle.std.proofs.lemmas.List.Folds.{list_all-append}
use Rattle.hal_schema.specs.Paths.{path_with, path_after, with_paths}
use Rattle.position_state.specs.declared.session.Anchor.{Anchor}
use Rattle.position_state.specs.declared.session.Anchor.TheVariants.{Front, At}
use Rattle.position_state.specs.declared.spot.Spot.{Spot}
use Rattle.position_state.specs.View.{is_at, is_place_of, root_named, before, behind}
use Rattle.position_state.specs.Looks.{found_at, above}
use Rattle.dli_calls.specs.Meets.{on_paths}
use Rattle.dli_calls.specs.Gets.{OnPath, paths_behind}
use Rattle.call_gets.specs.Scan.{IsFound, IsPath, path_of}
use Rattle.call_gets.proofs.Stepping.{Differ, place_parts}
use Rattle.call_gets.proofs.Skipping.{level, kept, kept_low, kept_kept, kept_is_low}

-- the path to an element, by what stands before it
abbrev pub path_at : List Spot → Spot → List Spot
path_at view s = path_with level (path_after level [] (before s.at view)) s

-- ---- one step up

last_more : (x : Spot) (ys : List Spot) → last_or (Some x) ys ≡ option_or (last_or None ys) (Some x)
last_more x [] = refl
last_more x (y ∷ ys) = by y ys
  where
    by : (y : Spot) (ys : List Spot) → last_or (Some y) ys ≡ option_or (last_or (Some y) ys) (Some x)
    by y [] = refl
    by y (z ∷ zs) = by z zs

-- the last of a higher level, and the path to it
pub record IsUp (l : ℕ) (path front : List Spot) (u : Spot) : Type 0 where
  pub first : List Spot
  pub mid : List Spot
  pub is : front ≡ first ++ u ∷ mid
  pub high : u.level < l
  pub over : list_all (λ x. nat_le l x.level) mid ≡ true
  pub same : kept l (path_after level path front) ≡ path_with level (path_after level path first) u

abbrev pub Climbed : ℕ → List Spot → List Spot → Option Spot → Type 0
Climbed l path front None = kept l (path_after level path front) ≡ kept l path
Climbed l path front (Some u) = IsUp l path front u

kept_path : (l : ℕ) (path : List Spot) (x : Spot) → x.level < l → kept l (path_with level path x) ≡ path_with level path x
kept_path l path x lt =
    kept_low x.level l (path_with level path x)
    (list_all-append (λ (y : Spot). nat_le y.level x.level) (kept x.level path) (x ∷ [])
    ∙ and_from (list_all (λ (y : Spot). nat_le y.level x.level) (kept x.level path)) (nat_le x.level x.level && true) (kept_is_low x.level path) (and_from (nat_le x.level x.level) true (le-leb x.level x.level (omega arith)) refl)) lt

pub kept_over : (l : ℕ) (path : List Spot) (x : Spot) → l ≤ x.level → kept l (path_with level path x) ≡ kept l path
kept_over l path x le =
    filter-append (λ (y : Spot). nat_lt y.level l) (kept x.level path) (x ∷ [])
    ∙ ap (λ b. kept l (kept x.level path) ++ cond b (x ∷ []) []) (le-ltb x.level l le)
    ∙ append-nil (kept l (kept x.level path)) ∙ kept_kept l x.level path le

-- where none is of a higher level, all are of this one or deeper
none_higher : (l : ℕ) (xs : List Spot) → last_or None (kept l xs) ≡ None → list_all (λ x. nat_le l x.level) xs ≡ true
none_higher l [] e = refl
none_higher l (x ∷ xs) e = by (nat_lt x.level l) refl e (none_higher l xs)
  where
    some : (y : Spot) (ys : List Spot) → last_or (Some y) ys ≡ None → ⊥
    some y [] k = let no : ⊥ = cc in no
    some y (z ∷ ys) k = some z ys k

    by : (b : Bool) → nat_lt x.level l ≡ b → last_or None (cond b (x ∷ kept l xs) (kept l xs)) ≡ None → (last_or None (kept l xs) ≡ None → list_all (λ x. nat_le l x.level) xs ≡ true) → list_all (λ x. nat_le l x.level) (x ∷ xs) ≡ true
    by true h k rest = absurd (some x (kept l xs) k)
    by false h k rest = and_from (nat_le l x.level) (list_all (λ x. nat_le l x.level) xs) (le-leb l x.level (ltb-false x.level l h)) (rest k)

pub climb : (l : ℕ) (path front : List Spot) → Climbed l path front (last_or None (kept l front))
climb l path [] = refl
climb l path (x ∷ xs) = by (nat_lt x.level l) refl (last_or None (kept l xs)) refl (climb l (path_with level path x) xs)
  where
    onward : (u : Spot) → IsUp l (path_with level path x) xs u → IsUp l path (x ∷ xs) u
    onward u r = record { first = x ∷ r.first; mid = r.mid; is = ap (λ (ys : List Spot). x ∷ ys) r.is; high = r.high; over = r.over; same = r.same }

    by : (b : Bool) → nat_lt x.level l ≡ b → (o : Option Spot) → last_or None (kept l xs) ≡ o → Climbed l (path_with level path x) xs o
        → Climbed l path (x ∷ xs) (last_or None (cond b (x ∷ kept l xs) (kept l xs)))
    by true h None e rest =
        let lt : x.level < l = ltb-true x.level l h in
        subst (Climbed l path (x ∷ xs)) (sym (last_more x (kept l xs) ∙ ap (λ o. option_or o (Some x)) e))
        (let up : IsUp l path (x ∷ xs) x = record { first = []; mid = xs; is = refl; high = lt; over = none_higher l xs e; same = rest ∙ kept_path l path x lt } in up)
    by true h (Some u) e rest = subst (Climbed l path (x ∷ xs)) (sym (last_more x (kept l xs) ∙ ap (λ o. option_or o (Some x)) e)) (onward u rest)
    by false h None e rest = subst (Climbed l path (x ∷ xs)) (sym e) (rest ∙ kept_over l path x (ltb-false x.level l h))
    by false h (Some u) e rest = subst (Climbed l path (x ∷ xs)) (sym e) (onward u rest)

-- nothing is above: the path is the element alone
pub route_top : (view : List Spot) (low : Spot) → above low view ≡ None → path_at view low ≡ low ∷ []
route_top view low e =
    let r : kept low.level (path_after level [] (before low.at view)) ≡ [] = subst (Climbed low.level [] (before low.at view)) e (climb low.level [] (before low.at view)) in
    ap (λ (ys : List Spot). ys ++ low ∷ []) r

pub record GoesUp (view : List Spot) (low up : Spot) : Type 0 where
  pub same : path_at view low ≡ path_at view up ++ low ∷ []
  pub found : IsFound view up

pub route_up : (view : List Spot) (low up : Spot) → Differ view → IsFound view low → above low view ≡ Some up → GoesUp view low up
route_up view low up d f e =
    let r : IsUp low.level [] (before low.at view) up = subst (Climbed low.level [] (before low.at view)) e (climb low.level [] (before low.at view)) in
    let p = place_parts low.at view low f in
    let b : before low.at view ≡ p.front = (d p.front p.rest low p.is).precedes in
    let split : view ≡ r.first ++ up ∷ (r.mid ++ low ∷ p.rest) =
    p.is ∙ ap (λ (ys : List Spot). ys ++ low ∷ p.rest) (sym b ∙ r.is) ∙ append_assoc r.first (up ∷ r.mid) (low ∷ p.rest) in
    let q = d r.first (r.mid ++ low ∷ p.rest) up split in
    record {
      same = ap (λ (ys : List Spot). ys ++ low ∷ []) (r.same ∙ ap (λ (ys : List Spot). path_with level (path_after level [] ys) up) (sym q.precedes));
      found = q.found;
    }

-- ---- the path and what is behind

after_here : {X : Type 0} (p : X → Bool) (x : X) (xs : List X) → p x ≡ true → after_first p (x ∷ xs) ≡ xs
after_here p x xs h = ap (λ b. drop (cond (not b) (1 + position_or_len p xs) 0 + 1) (x ∷ xs)) h

after_later : {X : Type 0} (p : X → Bool) (x : X) (xs : List X) → p x ≡ false → after_first p (x ∷ xs) ≡ after_first p xs
after_later p x xs h =
    let e : 1 + position_or_len p xs + 1 ≡ suc (position_or_len p xs + 1) = omega arith in
    ap (λ b. drop (cond (not b) (1 + position_or_len p xs) 0 + 1) (x ∷ xs)) h ∙ ap (λ n. drop n (x ∷ xs)) e

record Along (test : Spot → Bool) (path view : List Spot) (s : Spot) : Type 0 where
  front : List Spot
  rest : List Spot
  is : view ≡ front ++ s ∷ rest
  found : find (λ (p : OnPath). test p.1) (with_paths level path view) ≡ Some (path_with level (path_after level path front) s, s)
  plain : after_first test view ≡ rest
  follows : after_first (λ (p : OnPath). test p.1) (with_paths level path view) ≡ with_paths level (path_with level (path_after level path front) s) rest

along : (test : Spot → Bool) (path view : List Spot) (s : Spot) → find test view ≡ Some s → Along test path view s
along test path [] s e = absurd (let no : ⊥ = cc in no)
along test path (x ∷ xs) s e = by (test x) refl (along test (path_with level path x) xs s) e
  where
    next : List Spot
    next = path_with level path x

    on : OnPath → Bool
    on p = test p.1

    by : (b : Bool) → test x ≡ b → (find test xs ≡ Some s → Along test next xs s) → cond b (Some x) (find test xs) ≡ Some s → Along test path (x ∷ xs) s
    by true h rest k =
        let same : x ≡ s = cc in
        record {
          front = [];
          rest = xs;
          is = ap (λ (t : Spot). t ∷ xs) same;
          found = ap (λ b. cond b (Some (next, x)) (find on (with_paths level next xs))) h ∙ ap (λ (t : Spot). Some (path_with level path t, t)) same;
          plain = after_here test x xs h;
          follows = after_here on (next, x) (with_paths level next xs) h ∙ ap (λ (t : Spot). with_paths level (path_with level path t) xs) same;
        }
    by false h rest k =
        let r = rest k in
        record {
          front = x ∷ r.front;
          rest = r.rest;
          is = ap (λ (ys : List Spot). x ∷ ys) r.is;
          found = ap (λ b. cond b (Some (next, x)) (find on (with_paths level next xs))) h ∙ r.found;
          plain = after_later test x xs h ∙ r.plain;
          follows = after_later on (next, x) (with_paths level next xs) h ∙ r.follows;
        }

-- the path to a place where an element is found, and the elements behind it with theirs
pub record Routed (view : List Spot) (at : Anchor) (s : Spot) : Type 0 where
  pub path : path_of at view ≡ path_at view s
  pub follows : paths_behind at (on_paths view) ≡ with_paths level (path_at view s) (behind at view)
  pub front : List Spot
  pub split : view ≡ front ++ s ∷ behind at view
  pub precedes : before s.at view ≡ front

pub routed : (view : List Spot) (at : Anchor) (s : Spot) → Differ view → found_at at view ≡ Some s → Routed view at s
routed view Front s d e = absurd (let no : ⊥ = cc in no)
routed view (At name root entry) s d e =
    let a = along (is_at (At name root entry)) [] view s e in
    let q = d a.front a.rest s a.is in
    let same : path_with level (path_after level [] a.front) s ≡ path_at view s = ap (λ (ys : List Spot). path_with level (path_after level [] ys) s) (sym q.precedes) in
    record {
      path = ap (λ (o : Option OnPath). option_map_or (λ p. p.0) o []) a.found ∙ same;
      follows = a.follows ∙ ap (λ (ys : List Spot). with_paths level ys a.rest) same ∙ ap (with_paths level (path_at view s)) (sym a.plain);
      front = a.front;
      split = a.is ∙ ap (λ (ys : List Spot). a.front ++ s ∷ ys) (sym a.plain);
      precedes = q.precedes;
    }

-- ---- the climb

-- the path to a place is that to an element, and then these
pub record Climbing (view : List Spot) (at : Anchor) (low : Spot) (items : List Spot) : Type 0 where
  pub same : path_of at view ≡ path_at view low ++ items
  pub found : IsFound view low
  pub all : All (IsFound view) items

pub climbing_begins : (view : List Spot) (at : Anchor) (low : Spot) → Differ view → found_at at view ≡ Some low → Climbing view at low []
climbing_begins view at low d e =
    let p = place_parts at view low e in
    record {
      same = (routed view at low d e).path ∙ sym (append-nil (path_at view low));
      found = (d p.front p.rest low p.is).found;
      all = All-nil (IsFound view);
    }

pub climbing_goes : (view : List Spot) (at : Anchor) (low up : Spot) (items : List Spot) → Differ view → Climbing view at low items → above low view ≡ Some up → Climbing view at up (low ∷ items)
climbing_goes view at low up items d c e =
    let g = route_up view low up d c.found e in
    record {
      same = c.same ∙ ap (λ (ys : List Spot). ys ++ items) g.same ∙ append_assoc (path_at view up) (low ∷ []) items;
      found = g.found;
      all = All-cons (IsFound view) low items c.found c.all;
    }

pub climbing_ends : (view : List Spot) (at : Anchor) (low : Spot) (items path : List Spot) → Climbing view at low items → above low view ≡ None → path ≡ low ∷ items → IsPath view at path
climbing_ends view at low items path c e h = record {
  same = h ∙ sym (c.same ∙ ap (λ (ys : List Spot). ys ++ items) (route_top view low e));
  found = subst (All (IsFound view)) (sym h) (All-cons (IsFound view) low items c.found c.all);
}

-- where no element is found the place is the front, and there is no path
pub no_path : (view : List Spot) (at : Anchor) (path : List Spot) → is_place_of view at ≡ true → found_at at view ≡ None → path ≡ [] → IsPath view at path
no_path view Front path h e p = record { same = p; found = subst (All (IsFound view)) (sym p) (All-nil (IsFound view)) }
no_path view (At name root entry) path h e p =
    absurd (let no : false ≡ true = ap (λ o. option_map_or (λ (s : Spot). bytes_eq root (root_named s.at)) o false) (sym e) ∙ h in let none : ⊥ = cc in none)
