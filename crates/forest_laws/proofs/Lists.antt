-- Tests over each item and over each two of a list: where one item comes in, and where a part goes out.
use Rattle.std.proofs.Common.{◌≡◌, suc, ◌+◌, Bool, true, false, not, cond, ◌==◌, List, [], ◌∷◌, ◌++◌, length, drop, reverse, insert, None, Some, ◌⊎◌, inl, inr, refl, sym, ap, ◌∙◌, arith}
use Rattle.std.specs.Prelude.{filter, find}
use Rattle.std.specs.List.{list_all, prefix_len, suffix_len}
use Rattle.std.proofs.lemmas.Bool.{true≢false, and_parts, and_from, eq-eqb, ne_eqb, not_from_false, not-true}
use Rattle.std.proofs.lemmas.List.{length-reverse}
use Rattle.std.proofs.lemmas.Grind.{reverse_onto}
use Rattle.std.proofs.lemmas.List.Folds.{list_all-append, prefix_len-append}
use Rattle.std.proofs.lemmas.List.Sums.{suffix_len-le-length}
use Rattle.hal_schema.specs.declared.row.Row.{Row}
use Rattle.hal_schema.specs.Forest.{all_pairs}
use Rattle.hal_schema.specs.Insertion.{through_last}

-- ---- each item

pub all_append : {X : Type 0} (p : X → Bool) (xs ys : List X) → list_all p xs ≡ true → list_all p ys ≡ true → list_all p (xs ++ ys) ≡ true
all_append p xs ys a b = list_all-append p xs ys ∙ and_from (list_all p xs) (list_all p ys) a b

pub all_parts : {X : Type 0} (p : X → Bool) (xs ys : List X) → list_all p (xs ++ ys) ≡ true → (list_all p xs ≡ true) × (list_all p ys ≡ true)
all_parts p xs ys h = and_parts (list_all p xs) (list_all p ys) (sym (list_all-append p xs ys) ∙ h)

pub all_weaker : {X : Type 0} (p q : X → Bool) → ((x : X) → p x ≡ true → q x ≡ true) → (xs : List X) → list_all p xs ≡ true → list_all q xs ≡ true
all_weaker p q w [] h = refl
all_weaker p q w (x ∷ xs) h =
    let a = and_parts (p x) (list_all p xs) h in
    and_from (q x) (list_all q xs) (w x a.0) (all_weaker p q w xs a.1)

pub all_both : {X : Type 0} (p q r : X → Bool) → ((x : X) → p x ≡ true → q x ≡ true → r x ≡ true) → (xs : List X) → list_all p xs ≡ true → list_all q xs ≡ true → list_all r xs ≡ true
all_both p q r w [] a b = refl
all_both p q r w (x ∷ xs) a b =
    let c = and_parts (p x) (list_all p xs) a in
    let d = and_parts (q x) (list_all q xs) b in
    and_from (r x) (list_all r xs) (w x c.0 d.0) (all_both p q r w xs c.1 d.1)

pub all_each : {X : Type 0} (p : X → Bool) → ((x : X) → p x ≡ true) → (xs : List X) → list_all p xs ≡ true
all_each p w [] = refl
all_each p w (x ∷ xs) = and_from (p x) (list_all p xs) (w x) (all_each p w xs)

-- with one item in the middle
pub all_with : {X : Type 0} (p : X → Bool) (xs ys : List X) (x : X) → list_all p (xs ++ ys) ≡ true → p x ≡ true → list_all p (xs ++ x ∷ ys) ≡ true
all_with p xs ys x h one =
    let a = all_parts p xs ys h in
    all_append p xs (x ∷ ys) a.0 (and_from (p x) (list_all p ys) one a.1)

-- without the part in the middle
pub all_without : {X : Type 0} (p : X → Bool) (xs cut ys : List X) → list_all p (xs ++ (cut ++ ys)) ≡ true → list_all p (xs ++ ys) ≡ true
all_without p xs cut ys h =
    let a = all_parts p xs (cut ++ ys) h in
    all_append p xs ys a.0 (all_parts p cut ys a.1).1

-- the item in the middle
pub all_middle : {X : Type 0} (p : X → Bool) (xs ys : List X) (x : X) → list_all p (xs ++ x ∷ ys) ≡ true → p x ≡ true
all_middle p xs ys x h = (and_parts (p x) (list_all p ys) (all_parts p xs (x ∷ ys) h).1).0

-- ---- each two

pub record PairsParts {X : Type 0} (t : X → X → Bool) (xs ys : List X) : Type 0 where
  pub front : all_pairs t xs ≡ true
  pub back : all_pairs t ys ≡ true
  pub across : list_all (λ x. list_all (t x) ys) xs ≡ true

pub pairs_parts : {X : Type 0} (t : X → X → Bool) (xs ys : List X) → all_pairs t (xs ++ ys) ≡ true → PairsParts t xs ys
pairs_parts t [] ys h = record { front = refl; back = h; across = refl }
pairs_parts t (x ∷ xs) ys h =
    let a = and_parts (list_all (t x) (xs ++ ys)) (all_pairs t (xs ++ ys)) h in
    let b = all_parts (t x) xs ys a.0 in
    let rest = pairs_parts t xs ys a.1 in
    record {
      front = and_from (list_all (t x) xs) (all_pairs t xs) b.0 rest.front;
      back = rest.back;
      across = and_from (list_all (t x) ys) (list_all (λ x. list_all (t x) ys) xs) b.1 rest.across;
    }

pub pairs_join : {X : Type 0} (t : X → X → Bool) (xs ys : List X) → PairsParts t xs ys → all_pairs t (xs ++ ys) ≡ true
pairs_join t [] ys h = h.back
pairs_join t (x ∷ xs) ys h =
    let a = and_parts (list_all (t x) xs) (all_pairs t xs) h.front in
    let b = and_parts (list_all (t x) ys) (list_all (λ x. list_all (t x) ys) xs) h.across in
    and_from (list_all (t x) (xs ++ ys)) (all_pairs t (xs ++ ys)) (all_append (t x) xs ys a.0 b.0) (pairs_join t xs ys (record { front = a.1; back = h.back; across = b.1 }))

pub pairs_with : {X : Type 0} (t : X → X → Bool) (xs ys : List X) (x : X) → all_pairs t (xs ++ ys) ≡ true → list_all (λ a. t a x) xs ≡ true → list_all (t x) ys ≡ true → all_pairs t (xs ++ x ∷ ys) ≡ true
pairs_with t xs ys x h before behind =
    let p = pairs_parts t xs ys h in
    pairs_join t xs (x ∷ ys)
    (record {
      front = p.front;
      back = and_from (list_all (t x) ys) (all_pairs t ys) behind p.back;
      across = all_both (λ a. t a x) (λ a. list_all (t a) ys) (λ a. list_all (t a) (x ∷ ys)) (λ a one all. and_from (t a x) (list_all (t a) ys) one all) xs before p.across;
    })

pub pairs_without : {X : Type 0} (t : X → X → Bool) (xs cut ys : List X) → all_pairs t (xs ++ (cut ++ ys)) ≡ true → all_pairs t (xs ++ ys) ≡ true
pairs_without t xs cut ys h =
    let p = pairs_parts t xs (cut ++ ys) h in
    let q = pairs_parts t cut ys p.back in
    pairs_join t xs ys
    (record { front = p.front; back = q.back; across = all_weaker (λ a. list_all (t a) (cut ++ ys)) (λ a. list_all (t a) ys) (λ a h. (all_parts (t a) cut ys h).1) xs p.across })

-- what holds of each two holds of each before the one in the middle, and of each behind it
pub record PairsAt {X : Type 0} (t : X → X → Bool) (xs ys : List X) (x : X) : Type 0 where
  pub before : list_all (λ a. t a x) xs ≡ true
  pub behind : list_all (t x) ys ≡ true

pub pairs_at : {X : Type 0} (t : X → X → Bool) (xs ys : List X) (x : X) → all_pairs t (xs ++ x ∷ ys) ≡ true → PairsAt t xs ys x
pairs_at t xs ys x h =
    let p = pairs_parts t xs (x ∷ ys) h in
    record {
      before = all_weaker (λ a. list_all (t a) (x ∷ ys)) (λ a. t a x) (λ a h. (and_parts (t a x) (list_all (t a) ys) h).0) xs p.across;
      behind = (and_parts (list_all (t x) ys) (all_pairs t ys) p.back).0;
    }

-- ---- the items from the front on that pass, and those behind the last that passes

pub record Front {X : Type 0} (p : X → Bool) (xs : List X) : Type 0 where
  pub passing : List X
  pub rest : List X
  pub split : xs ≡ passing ++ rest
  pub long : prefix_len p xs ≡ length passing
  pub pass : list_all p passing ≡ true
  pub stops : (x : X) (more : List X) → rest ≡ x ∷ more → p x ≡ false

front_by : {X : Type 0} (p : X → Bool) (x : X) (xs : List X) (b : Bool) → p x ≡ b → Front p xs → Front p (x ∷ xs)
front_by p x xs true e f = record {
  passing = x ∷ f.passing;
  rest = f.rest;
  split = ap (λ l. x ∷ l) f.split;
  long = let g : prefix_len p (x ∷ xs) ≡ 1 + prefix_len p xs = ap (λ b. cond b (1 + prefix_len p xs) 0) e in let h = f.long in omega arith;
  pass = and_from (p x) (list_all p f.passing) e f.pass;
  stops = f.stops;
}
front_by p x xs false e f = record {
  passing = [];
  rest = x ∷ xs;
  split = refl;
  long = ap (λ b. cond b (1 + prefix_len p xs) 0) e;
  pass = refl;
  stops = λ y more is. let same : x ≡ y = cc in ap p (sym same) ∙ e;
}

pub front_of : {X : Type 0} (p : X → Bool) (xs : List X) → Front p xs
front_of p [] = record { passing = []; rest = []; split = refl; long = refl; pass = refl; stops = λ x more is. cc }
front_of p (x ∷ xs) = front_by p x xs (p x) refl (front_of p xs)

-- the last that passes, with what stands before and behind it
pub record LastOf (test : Row → Bool) (xs : List Row) : Type 0 where
  pub front : List Row
  pub last : Row
  pub behind : List Row
  pub split : xs ≡ front ++ last ∷ behind
  pub passes : test last ≡ true
  pub none : list_all (λ x. not (test x)) behind ≡ true
  pub through : through_last test xs ≡ suc (length front)

pub record NoneOf (test : Row → Bool) (xs : List Row) : Type 0 where
  pub none : list_all (λ x. not (test x)) xs ≡ true
  pub through : through_last test xs ≡ 0

suffix_cons : (q : Row → Bool) (x : Row) (xs : List Row) → suffix_len q (x ∷ xs) ≡ cond (suffix_len q xs == length xs) (length xs + cond (q x) 1 0) (suffix_len q xs)
suffix_cons q x xs =
    ap (prefix_len q) (reverse_onto xs x []) ∙ prefix_len-append q (reverse xs) (x ∷ [])
    ∙ ap (λ n. cond (prefix_len q (reverse xs) == n) (n + cond (q x) 1 0) (prefix_len q (reverse xs))) (length-reverse xs)

-- the last of the rest is the last of all
pub last_behind : (test : Row → Bool) (x : Row) (xs : List Row) → LastOf test xs → LastOf test (x ∷ xs)
last_behind test x xs l =
    let q : Row → Bool = λ y. not (test y) in
    let s = suffix_len-le-length q xs in
    let t = l.through in
    let apart : suffix_len q xs ≡ length xs → ⊥ = λ e. absurd (omega (arith, e, t)) in
    let same : suffix_len q (x ∷ xs) ≡ suffix_len q xs =
    suffix_cons q x xs ∙ ap (λ b. cond b (length xs + cond (q x) 1 0) (suffix_len q xs)) (ne_eqb (suffix_len q xs) (length xs) apart) in
    record {
      front = x ∷ l.front;
      last = l.last;
      behind = l.behind;
      split = ap (λ l. x ∷ l) l.split;
      passes = l.passes;
      none = l.none;
      through = omega (arith, same, s, t);
    }

pub none_behind : (test : Row → Bool) (x : Row) (xs : List Row) (b : Bool) → test x ≡ b → NoneOf test xs → LastOf test (x ∷ xs) ⊎ NoneOf test (x ∷ xs)
none_behind test x xs b e n =
    let q : Row → Bool = λ y. not (test y) in
    let s = suffix_len-le-length q xs in
    let t = n.through in
    let all : suffix_len q xs ≡ length xs = omega (arith, s, t) in
    let is : suffix_len q (x ∷ xs) ≡ length xs + cond (not b) 1 0 =
    suffix_cons q x xs ∙ ap (λ b. cond b (length xs + cond (q x) 1 0) (suffix_len q xs)) (eq-eqb (suffix_len q xs) (length xs) all) ∙ ap (λ b. length xs + cond (not b) 1 0) e in
    by b e is
  where
    by : (b : Bool) → test x ≡ b → suffix_len (λ y. not (test y)) (x ∷ xs) ≡ length xs + cond (not b) 1 0 → LastOf test (x ∷ xs) ⊎ NoneOf test (x ∷ xs)
    by true e is = inl (record { front = []; last = x; behind = xs; split = refl; passes = e; none = n.none; through = omega (arith, is) })
    by false e is = inr (record { none = and_from (not (test x)) (list_all (λ y. not (test y)) xs) (not_from_false (test x) e) n.none; through = omega (arith, is) })

pub last_of : (test : Row → Bool) (xs : List Row) → LastOf test xs ⊎ NoneOf test xs
last_of test [] = inr (record { none = refl; through = refl })
last_of test (x ∷ xs) = by (last_of test xs)
  where
    by : LastOf test xs ⊎ NoneOf test xs → LastOf test (x ∷ xs) ⊎ NoneOf test (x ∷ xs)
    by (inl l) = inl (last_behind test x xs l)
    by (inr n) = none_behind test x xs (test x) refl n

-- ---- edits by the lists around them

pub drop_front : {X : Type 0} (xs ys : List X) → drop (length xs) (xs ++ ys) ≡ ys
drop_front [] ys = refl
drop_front (x ∷ xs) ys = drop_front xs ys

pub insert_between : {X : Type 0} (xs ys : List X) (x : X) → insert (xs ++ ys) (length xs) x ≡ xs ++ x ∷ ys
insert_between [] ys x = refl
insert_between (y ∷ xs) ys x = ap (λ l. y ∷ l) (insert_between xs ys x)

-- ---- finding

-- the first that passes, with what stands before and behind it
pub record Found {X : Type 0} (p : X → Bool) (xs : List X) (x : X) : Type 0 where
  pub front : List X
  pub behind : List X
  pub split : xs ≡ front ++ x ∷ behind
  pub passes : p x ≡ true
  pub none : list_all (λ y. not (p y)) front ≡ true

pub found : {X : Type 0} (p : X → Bool) (xs : List X) (x : X) → find p xs ≡ Some x → Found p xs x
found p [] x e = cc
found {X} p (y ∷ xs) x e = by (p y) refl e (λ e. found p xs x e)
  where
    by : (b : Bool) → p y ≡ b → cond b (Some y) (find p xs) ≡ Some x → (find p xs ≡ Some x → Found p xs x) → Found p (y ∷ xs) x
    by true passes e rest =
        let same : y ≡ x = cc in
        record { front = []; behind = xs; split = ap (λ z. z ∷ xs) same; passes = ap p (sym same) ∙ passes; none = refl }
    by false fails e rest =
        let f = rest e in
        record { front = y ∷ f.front; behind = f.behind; split = ap (λ l. y ∷ l) f.split; passes = f.passes; none = and_from (not (p y)) (list_all (λ y. not (p y)) f.front) (not_from_false (p y) fails) f.none }

pub find_at : {X : Type 0} (p : X → Bool) (front : List X) (x : X) (behind : List X) → list_all (λ y. not (p y)) front ≡ true → p x ≡ true → find p (front ++ x ∷ behind) ≡ Some x
find_at p [] x behind none passes = ap (λ b. cond b (Some x) (find p behind)) passes
find_at p (y ∷ front) x behind none passes =
    let a = and_parts (not (p y)) (list_all (λ y. not (p y)) front) none in
    ap (λ b. cond b (Some y) (find p (front ++ x ∷ behind))) (not-true (p y) a.0) ∙ find_at p front x behind a.1 passes

pub find_none : {X : Type 0} (p : X → Bool) (xs : List X) → list_all (λ y. not (p y)) xs ≡ true → find p xs ≡ None
find_none p [] none = refl
find_none p (y ∷ xs) none =
    let a = and_parts (not (p y)) (list_all (λ y. not (p y)) xs) none in
    ap (λ b. cond b (Some y) (find p xs)) (not-true (p y) a.0) ∙ find_none p xs a.1

-- ---- filters

pub filter_all : {X : Type 0} (p : X → Bool) (xs : List X) → list_all p xs ≡ true → filter p xs ≡ xs
filter_all p [] h = refl
filter_all p (x ∷ xs) h =
    let a = and_parts (p x) (list_all p xs) h in
    ap (λ b. cond b (x ∷ filter p xs) (filter p xs)) a.0 ∙ ap (λ l. x ∷ l) (filter_all p xs a.1)

pub filter_none : {X : Type 0} (p : X → Bool) (xs : List X) → list_all (λ x. not (p x)) xs ≡ true → filter p xs ≡ []
filter_none p [] h = refl
filter_none p (x ∷ xs) h =
    let a = and_parts (not (p x)) (list_all (λ x. not (p x)) xs) h in
    ap (λ b. cond b (x ∷ filter p xs) (filter p xs)) (not-true (p x) a.0) ∙ filter_none p xs a.1

-- what passes the first test is all that passes both
pub filter_within : {X : Type 0} (p q : X → Bool) → ((x : X) → p x ≡ true → q x ≡ true) → (xs : List X) → filter p (filter q xs) ≡ filter p xs
filter_within p q w [] = refl
filter_within {X} p q w (x ∷ xs) = by (q x) (p x) refl refl (filter_within p q w xs)
  where
    by : (b c : Bool) → q x ≡ b → p x ≡ c → filter p (filter q xs) ≡ filter p xs → filter p (cond (q x) (x ∷ filter q xs) (filter q xs)) ≡ cond (p x) (x ∷ filter p xs) (filter p xs)
    by true c e f rest = ap (λ b. filter p (cond b (x ∷ filter q xs) (filter q xs))) e ∙ ap (λ l. cond (p x) (x ∷ l) l) rest
    by false true e f rest = absurd (true≢false (sym (w x f) ∙ e))
    by false false e f rest = ap (λ b. filter p (cond b (x ∷ filter q xs) (filter q xs))) e ∙ rest ∙ sym (ap (λ b. cond b (x ∷ filter p xs) (filter p xs)) f)

pub all_filtered : {X : Type 0} (p : X → Bool) (xs : List X) → list_all p (filter p xs) ≡ true
all_filtered p [] = refl
all_filtered {X} p (x ∷ xs) = by (p x) refl (all_filtered p xs)
  where
    by : (b : Bool) → p x ≡ b → list_all p (filter p xs) ≡ true → list_all p (cond b (x ∷ filter p xs) (filter p xs)) ≡ true
    by true e rest = and_from (p x) (list_all p (filter p xs)) e rest
    by false e rest = rest

pub all_in_filtered : {X : Type 0} (p q : X → Bool) (xs : List X) → list_all p xs ≡ true → list_all p (filter q xs) ≡ true
all_in_filtered p q [] h = refl
all_in_filtered {X} p q (x ∷ xs) h = let a = and_parts (p x) (list_all p xs) h in by (q x) a.0 (all_in_filtered p q xs a.1)
  where
    by : (b : Bool) → p x ≡ true → list_all p (filter q xs) ≡ true → list_all p (cond b (x ∷ filter q xs) (filter q xs)) ≡ true
    by true one rest = and_from (p x) (list_all p (filter q xs)) one rest
    by false one rest = rest

-- ---- among

abbrev pub Among : {X : Type 0} → X → List X → Type 0
Among x [] = ⊥
Among x (y ∷ ys) = (y ≡ x) ⊎ Among x ys

pub among_passes : {X : Type 0} (p : X → Bool) (x : X) (xs : List X) → Among x xs → list_all p xs ≡ true → p x ≡ true
among_passes p x [] h all = absurd h
among_passes p x (y ∷ ys) (inl e) all = sym (ap p e) ∙ (and_parts (p y) (list_all p ys) all).0
among_passes p x (y ∷ ys) (inr h) all = among_passes p x ys h (and_parts (p y) (list_all p ys) all).1

pub among_append : {X : Type 0} (x : X) (xs ys : List X) → Among x (xs ++ ys) → Among x xs ⊎ Among x ys
among_append x [] ys h = inr h
among_append x (y ∷ xs) ys (inl e) = inl (inl e)
among_append x (y ∷ xs) ys (inr h) = elim (among_append x xs ys h) [ inl a ↦ inl (inr a) | inr b ↦ inr b ]

pub among_middle : {X : Type 0} (x : X) (xs ys : List X) → Among x (xs ++ x ∷ ys)
among_middle x [] ys = inl refl
among_middle x (y ∷ xs) ys = inr (among_middle x xs ys)

pub among_left : {X : Type 0} (x : X) (xs ys : List X) → Among x xs → Among x (xs ++ ys)
among_left x [] ys h = absurd h
among_left x (y ∷ xs) ys (inl e) = inl e
among_left x (y ∷ xs) ys (inr h) = inr (among_left x xs ys h)

pub among_right : {X : Type 0} (x : X) (xs ys : List X) → Among x ys → Among x (xs ++ ys)
among_right x [] ys h = h
among_right x (y ∷ xs) ys h = inr (among_right x xs ys h)

pub among_filter : {X : Type 0} (p : X → Bool) (x : X) (xs : List X) → Among x (filter p xs) → Among x xs × (p x ≡ true)
among_filter p x [] h = absurd h
among_filter {X} p x (y ∷ xs) h = by (p y) refl h (among_filter p x xs)
  where
    by : (b : Bool) → p y ≡ b → Among x (cond b (y ∷ filter p xs) (filter p xs)) → (Among x (filter p xs) → Among x xs × (p x ≡ true)) → Among x (y ∷ xs) × (p x ≡ true)
    by true e (inl s) rest = (inl s, sym (ap p s) ∙ e)
    by true e (inr h) rest = let a = rest h in (inr a.0, a.1)
    by false e h rest = let a = rest h in (inr a.0, a.1)

pub all_among : {X : Type 0} (p : X → Bool) (xs : List X) → ((x : X) → Among x xs → p x ≡ true) → list_all p xs ≡ true
all_among p [] h = refl
all_among p (x ∷ xs) h = and_from (p x) (list_all p xs) (h x (inl refl)) (all_among p xs (λ y a. h y (inr a)))

pub record SplitAt {X : Type 0} (x : X) (xs : List X) : Type 0 where
  pub front : List X
  pub behind : List X
  pub split : xs ≡ front ++ x ∷ behind

pub among_split : {X : Type 0} (x : X) (xs : List X) → Among x xs → SplitAt x xs
among_split x [] h = absurd h
among_split x (y ∷ xs) (inl e) = record { front = []; behind = xs; split = ap (λ z. z ∷ xs) e }
among_split x (y ∷ xs) (inr h) = let s = among_split x xs h in record { front = y ∷ s.front; behind = s.behind; split = ap (λ l. y ∷ l) s.split }
