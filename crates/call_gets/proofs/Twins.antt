-- The later twins of an element, passed from one to the next.
use Rattle.std.proofs.Common.{◌≡◌, ℕ, suc, ◌+◌, ◌==◌, ◌<◌, ◌≤◌, Bool, true, false, cond, ◌&&◌, ◌||◌, List, [], ◌∷◌, ◌++◌, take, Option, None, Some, refl, sym, ap, subst, ◌∙◌, arith}
use Rattle.std.specs.Prelude.{nat_le, nat_lt, filter, take_while, IfSome}
use Rattle.std.specs.List.{list_all, list_any, prefix_len}
use Rattle.std.proofs.lemmas.Bool.{and_parts, eqb-true, false_from_ne_true, ltb-true, le-leb, lt-leb}
use Rattle.std.proofs.lemmas.List.Folds.{list_all-append}
use Rattle.hal_schema.specs.declared.schema.SegType.{SegType}
use Rattle.hal_schema.specs.SegType.{level_of}
use Rattle.position_state.specs.declared.spot.Spot.{Spot}
use Rattle.position_state.specs.View.{behind}
use Rattle.position_state.specs.Looks.{past}
use Rattle.call_gets.specs.Scan.{IsFound, from_on}
use Rattle.call_gets.proofs.Stepping.{Differ, place_parts, Ends, ends_behind, Passed, passed}

-- what the laws of views say of one view
pub record Keeps (types : List SegType) (view : List Spot) : Type 0 where
  pub differ : Differ view
  pub levels : list_all (λ (s : Spot). s.level == level_of types s.code) view ≡ true

take_true : {X : Type 0} (p : X → Bool) (x : X) (xs : List X) → p x ≡ true → take_while p (x ∷ xs) ≡ x ∷ take_while p xs
take_true p x xs h =
    let e : 1 + prefix_len p xs ≡ suc (prefix_len p xs) = omega arith in
    ap (λ b. take (cond b (1 + prefix_len p xs) 0) (x ∷ xs)) h ∙ ap (λ n. take n (x ∷ xs)) e

take_false : {X : Type 0} (p : X → Bool) (x : X) (xs : List X) → p x ≡ false → take_while p (x ∷ xs) ≡ []
take_false p x xs h = ap (λ b. take (cond b (1 + prefix_len p xs) 0) (x ∷ xs)) h

-- those of a type among the first that are no higher
abbrev pub twins : ℕ → ℕ → List Spot → List Spot
twins level code ys = filter (λ (o : Spot). o.code == code) (take_while (λ (o : Spot). nat_le level o.level) ys)

-- none of what is deeper is one of them
twins_pass : (types : List SegType) (level code : ℕ) (deep rest : List Spot) → level ≡ level_of types code
    → list_all (λ (s : Spot). s.level == level_of types s.code) deep ≡ true → list_all (λ (s : Spot). nat_lt level s.level) deep ≡ true
    → twins level code (deep ++ rest) ≡ twins level code rest
twins_pass types level code [] rest same levels deeper = refl
twins_pass types level code (x ∷ xs) rest same levels deeper =
    let a = and_parts (x.level == level_of types x.code) (list_all (λ (s : Spot). s.level == level_of types s.code) xs) levels in
    let b = and_parts (nat_lt level x.level) (list_all (λ (s : Spot). nat_lt level s.level) xs) deeper in
    let lt : level < x.level = ltb-true level x.level b.0 in
    let differs : (x.code == code) ≡ false =
    false_from_ne_true (x.code == code) (λ t.
    let is : x.level ≡ level = eqb-true x.level (level_of types x.code) a.0 ∙ ap (level_of types) (eqb-true x.code code t) ∙ sym same in
    absurd (omega (arith, is, lt))) in
    let rest' : List Spot = take_while (λ (o : Spot). nat_le level o.level) (xs ++ rest) in
    ap (filter (λ (o : Spot). o.code == code)) (take_true (λ (o : Spot). nat_le level o.level) x (xs ++ rest) (le-leb level x.level (omega (arith, lt))))
    ∙ ap (λ b. cond b (x ∷ filter (λ (o : Spot). o.code == code) rest') (filter (λ (o : Spot). o.code == code) rest')) differs
    ∙ twins_pass types level code xs rest same a.1 b.1

all_behind : (p : Spot → Bool) (view ys : List Spot) → Ends view ys → list_all p view ≡ true → list_all p ys ≡ true
all_behind p view ys e h = (and_parts (list_all p e.front) (list_all p ys) (sym (list_all-append p e.front ys) ∙ ap (list_all p) (sym e.is) ∙ h)).1

level_here : (types : List SegType) (view : List Spot) (s : Spot) → Keeps types view → IsFound view s → s.level ≡ level_of types s.code
level_here types view s k f =
    let p = place_parts s.at view s f in
    let all : list_all (λ (s : Spot). s.level == level_of types s.code) (s ∷ p.rest) ≡ true = all_behind (λ (s : Spot). s.level == level_of types s.code) view (s ∷ p.rest) (record { front = p.front; is = p.is }) k.levels in
    eqb-true s.level (level_of types s.code) (and_parts (s.level == level_of types s.code) (list_all (λ (s : Spot). s.level == level_of types s.code) p.rest) all).0

-- the twins of an element that a pass from one to the next still meets
pub record TwinsLeft (view : List Spot) (test : Spot → Bool) (spot : Spot) (next : Option Spot) : Type 0 where
  pub any : list_any test (twins spot.level spot.code (behind spot.at view)) ≡ list_any test (twins spot.level spot.code (from_on view next))
  pub high : IfSome next (λ t. t.level ≤ spot.level)
  pub found : IfSome next (IsFound view)

-- past an element of this level only twins are passed over that are deeper, and so of another type
twins_past : (types : List SegType) (view : List Spot) (spot at : Spot) → Keeps types view → IsFound view spot → IsFound view at → at.level ≡ spot.level
    → (next : Option Spot) → next ≡ past at view
    → (twins spot.level spot.code (behind at.at view) ≡ twins spot.level spot.code (from_on view next)) × Passed view (behind at.at view) at.level next
twins_past types view spot at k f g same next e =
    let ends = ends_behind view at k.differ g in
    let p : Passed view (behind at.at view) at.level next = subst (Passed view (behind at.at view) at.level) (sym e) (passed view (behind at.at view) at.level k.differ ends) in
    let all : list_all (λ (s : Spot). s.level == level_of types s.code) (p.deep ++ from_on view next) ≡ true =
    ap (list_all (λ (s : Spot). s.level == level_of types s.code)) (sym p.is) ∙ all_behind (λ (s : Spot). s.level == level_of types s.code) view (behind at.at view) ends k.levels in
    let own = (and_parts (list_all (λ (s : Spot). s.level == level_of types s.code) p.deep) (list_all (λ (s : Spot). s.level == level_of types s.code) (from_on view next))
    (sym (list_all-append (λ (s : Spot). s.level == level_of types s.code) p.deep (from_on view next)) ∙ all)).0 in (
      ap (twins spot.level spot.code) p.is
          ∙ twins_pass types spot.level spot.code p.deep (from_on view next) (level_here types view spot k f) own
          (ap (λ n. list_all (λ (s : Spot). nat_lt n s.level) p.deep) (sym same) ∙ p.deeper),
      p,
    )

pub twins_begin : (types : List SegType) (view : List Spot) (test : Spot → Bool) (spot : Spot) (next : Option Spot) → Keeps types view → IsFound view spot → next ≡ past spot view
    → TwinsLeft view test spot next
twins_begin types view test spot next k f e =
    let p = twins_past types view spot spot k f f refl next e in
    record { any = ap (list_any test) p.0; high = p.1.high; found = p.1.found }

pub twins_go : (types : List SegType) (view : List Spot) (test : Spot → Bool) (spot at : Spot) (next : Option Spot) → Keeps types view → IsFound view spot
    → TwinsLeft view test spot (Some at) → (at.level < spot.level → ⊥) → ((at.code == spot.code) && test at) ≡ false → next ≡ past at view → TwinsLeft view test spot next
twins_go types view test spot at next k f t low fails e =
    let same : at.level ≡ spot.level = omega (arith, t.high, low) in
    let p = twins_past types view spot at k f t.found same next e in
    let rest : List Spot = twins spot.level spot.code (behind at.at view) in
    record {
      any = t.any
          ∙ ap (λ ys. list_any test (filter (λ (o : Spot). o.code == spot.code) ys)) (take_true (λ (o : Spot). nat_le spot.level o.level) at (behind at.at view) (le-leb spot.level at.level (omega (arith, same))))
          ∙ by (at.code == spot.code) fails ∙ ap (list_any test) p.0;
      high = subst (λ n. IfSome next (λ t. t.level ≤ n)) same p.1.high;
      found = p.1.found;
    }
  where
    by : (b : Bool) → (b && test at) ≡ false → list_any test (cond b (at ∷ twins spot.level spot.code (behind at.at view)) (twins spot.level spot.code (behind at.at view))) ≡ list_any test (twins spot.level spot.code (behind at.at view))
    by true h = ap (λ b. b || list_any test (twins spot.level spot.code (behind at.at view))) h
    by false h = refl

pub twins_hit : (view : List Spot) (test : Spot → Bool) (spot at : Spot) → TwinsLeft view test spot (Some at) → (at.level < spot.level → ⊥) → ((at.code == spot.code) && test at) ≡ true
    → true ≡ list_any test (twins spot.level spot.code (behind spot.at view))
twins_hit view test spot at t low hits =
    let a = and_parts (at.code == spot.code) (test at) hits in
    let rest : List Spot = twins spot.level spot.code (behind at.at view) in
    sym (t.any
    ∙ ap (λ ys. list_any test (filter (λ (o : Spot). o.code == spot.code) ys)) (take_true (λ (o : Spot). nat_le spot.level o.level) at (behind at.at view) (le-leb spot.level at.level (omega (arith, low))))
    ∙ ap (λ b. list_any test (cond b (at ∷ rest) rest)) a.0 ∙ ap (λ b. b || list_any test rest) a.1)

pub twins_end : (view : List Spot) (test : Spot → Bool) (spot : Spot) → TwinsLeft view test spot None → false ≡ list_any test (twins spot.level spot.code (behind spot.at view))
twins_end view test spot t = sym t.any

pub twins_low : (view : List Spot) (test : Spot → Bool) (spot at : Spot) → TwinsLeft view test spot (Some at) → at.level < spot.level → false ≡ list_any test (twins spot.level spot.code (behind spot.at view))
twins_low view test spot at t low =
    sym (t.any ∙ ap (λ ys. list_any test (filter (λ (o : Spot). o.code == spot.code) ys)) (take_false (λ (o : Spot). nat_le spot.level o.level) at (behind at.at view) (lt-leb spot.level at.level low)))
