-- The children of an element, passed from one to the next.
use Rattle.std.proofs.Common.{◌≡◌, ℕ, suc, ◌+◌, ◌==◌, ◌<◌, ◌≤◌, Bool, true, false, cond, ◌||◌, List, [], ◌∷◌, ◌++◌, take, Option, None, Some, refl, sym, ap, subst, ◌∙◌, arith}
use Rattle.std.specs.Prelude.{nat_lt, take_while, IfSome}
use Rattle.std.specs.List.{list_all, list_any, prefix_len}
use Rattle.std.proofs.lemmas.Bool.{and_parts, eqb-true, false_from_ne_true, ltb-true, lt-ltb, le-ltb}
use Rattle.std.proofs.lemmas.List.Folds.{list_all-append}
use Rattle.hal_schema.specs.declared.schema.SegType.{SegType}
use Rattle.hal_schema.specs.SegType.{level_of}
use Rattle.position_state.specs.declared.session.Anchor.{Anchor}
use Rattle.position_state.specs.declared.spot.Spot.{Spot}
use Rattle.position_state.specs.View.{behind}
use Rattle.position_state.specs.Looks.{first_behind, past}
use Rattle.call_gets.specs.Scan.{IsFound, from_on}
use Rattle.call_changes.specs.Inserts.{any_deep}
use Rattle.call_gets.proofs.Stepping.{Differ, Ends, Passed, ends_any, ends_behind, next_of, passed}

-- what the laws of views say of one view
pub record Keeps (types : List SegType) (view : List Spot) : Type 0 where
  pub differ : Differ view
  pub levels : list_all (λ (s : Spot). s.level == level_of types s.code) view ≡ true

pub take_true : {X : Type 0} (p : X → Bool) (x : X) (xs : List X) → p x ≡ true → take_while p (x ∷ xs) ≡ x ∷ take_while p xs
take_true p x xs h =
    let e : 1 + prefix_len p xs ≡ suc (prefix_len p xs) = omega arith in
    ap (λ b. take (cond b (1 + prefix_len p xs) 0) (x ∷ xs)) h ∙ ap (λ n. take n (x ∷ xs)) e

pub take_false : {X : Type 0} (p : X → Bool) (x : X) (xs : List X) → p x ≡ false → take_while p (x ∷ xs) ≡ []
take_false p x xs h = ap (λ b. take (cond b (1 + prefix_len p xs) 0) (x ∷ xs)) h

-- a test that passes for one type alone, whose level is one more than this
pub record IsOfLevel (types : List SegType) (code top : ℕ) (test : Spot → Bool) : Type 0 where
  pub level : level_of types code ≡ top + 1
  pub only : (z : Spot) → test z ≡ true → z.code ≡ code

-- none of what is deeper passes
pass_deep : (types : List SegType) (code top most : ℕ) (test : Spot → Bool) (deep rest : List Spot) → IsOfLevel types code top test → top < most
    → list_all (λ (s : Spot). s.level == level_of types s.code) deep ≡ true → list_all (λ (s : Spot). nat_lt most s.level) deep ≡ true
    → any_deep top test (deep ++ rest) ≡ any_deep top test rest
pass_deep types code top most test [] rest of le levels deeper = refl
pass_deep types code top most test (x ∷ xs) rest of le levels deeper =
    let a = and_parts (x.level == level_of types x.code) (list_all (λ (s : Spot). s.level == level_of types s.code) xs) levels in
    let b = and_parts (nat_lt most x.level) (list_all (λ (s : Spot). nat_lt most s.level) xs) deeper in
    let lt : most < x.level = ltb-true most x.level b.0 in
    let fails : test x ≡ false =
    false_from_ne_true (test x) (λ t.
    let is : x.level ≡ top + 1 = eqb-true x.level (level_of types x.code) a.0 ∙ ap (level_of types) (of.only x t) ∙ of.level in
    absurd (omega (arith, is, lt, le))) in
    ap (list_any test) (take_true (λ (z : Spot). nat_lt top z.level) x (xs ++ rest) (lt-ltb top x.level (omega (arith, lt, le))))
    ∙ ap (λ b. b || any_deep top test (xs ++ rest)) fails
    ∙ pass_deep types code top most test xs rest of le a.1 b.1

all_behind : (p : Spot → Bool) (view ys : List Spot) → Ends view ys → list_all p view ≡ true → list_all p ys ≡ true
all_behind p view ys e h = (and_parts (list_all p e.front) (list_all p ys) (sym (list_all-append p e.front ys) ∙ ap (list_all p) (sym e.is) ∙ h)).1

-- whether one passes of those that a pass from one to the next still meets
pub record ChildrenLeft (view : List Spot) (test : Spot → Bool) (top : ℕ) (at : Anchor) (next : Option Spot) : Type 0 where
  pub any : any_deep top test (behind at view) ≡ any_deep top test (from_on view next)
  pub found : IfSome next (IsFound view)

pub children_begin : (view : List Spot) (test : Spot → Bool) (top : ℕ) (at : Anchor) (next : Option Spot) → Differ view → next ≡ first_behind at view → ChildrenLeft view test top at next
children_begin view test top at next d e =
    let q = next_of view (behind at view) d (ends_any view at) in
    record {
      any = ap (any_deep top test) q.is ∙ ap (λ (o : Option Spot). any_deep top test (from_on view o)) (sym e);
      found = subst (λ (o : Option Spot). IfSome o (IsFound view)) (sym e) q.found;
    }

pub children_go : (types : List SegType) (view : List Spot) (code top : ℕ) (test : Spot → Bool) (at : Anchor) (old : Option Spot) (s : Spot) (next : Option Spot) → Keeps types view → IsOfLevel types code top test
    → ChildrenLeft view test top at old → old ≡ Some s → top < s.level → test s ≡ false → next ≡ past s view → ChildrenLeft view test top at next
children_go types view code top test at old s next k of left is high fails e =
    let f : IsFound view s = subst (λ (o : Option Spot). IfSome o (IsFound view)) is left.found in
    let ends = ends_behind view s k.differ f in
    let p : Passed view (behind s.at view) s.level next = subst (Passed view (behind s.at view) s.level) (sym e) (passed view (behind s.at view) s.level k.differ ends) in
    let all : list_all (λ (s : Spot). s.level == level_of types s.code) (p.deep ++ from_on view next) ≡ true =
    ap (list_all (λ (s : Spot). s.level == level_of types s.code)) (sym p.is) ∙ all_behind (λ (s : Spot). s.level == level_of types s.code) view (behind s.at view) ends k.levels in
    let own = (and_parts (list_all (λ (s : Spot). s.level == level_of types s.code) p.deep) (list_all (λ (s : Spot). s.level == level_of types s.code) (from_on view next))
    (sym (list_all-append (λ (s : Spot). s.level == level_of types s.code) p.deep (from_on view next)) ∙ all)).0 in
    record {
      any = left.any ∙ ap (λ (o : Option Spot). any_deep top test (from_on view o)) is
          ∙ ap (list_any test) (take_true (λ (z : Spot). nat_lt top z.level) s (behind s.at view) (lt-ltb top s.level high))
          ∙ ap (λ b. b || any_deep top test (behind s.at view)) fails
          ∙ ap (any_deep top test) p.is ∙ pass_deep types code top s.level test p.deep (from_on view next) of high own p.deeper;
      found = p.found;
    }

pub children_hit : (view : List Spot) (test : Spot → Bool) (top : ℕ) (at : Anchor) (old : Option Spot) (s : Spot) → ChildrenLeft view test top at old → old ≡ Some s → top < s.level → test s ≡ true
    → true ≡ any_deep top test (behind at view)
children_hit view test top at old s left is high hits =
    sym (left.any ∙ ap (λ (o : Option Spot). any_deep top test (from_on view o)) is
    ∙ ap (list_any test) (take_true (λ (z : Spot). nat_lt top z.level) s (behind s.at view) (lt-ltb top s.level high))
    ∙ ap (λ b. b || any_deep top test (behind s.at view)) hits)

pub children_end : (view : List Spot) (test : Spot → Bool) (top : ℕ) (at : Anchor) (old : Option Spot) → ChildrenLeft view test top at old → old ≡ None → false ≡ any_deep top test (behind at view)
children_end view test top at old left is = sym (left.any ∙ ap (λ (o : Option Spot). any_deep top test (from_on view o)) is)

pub children_low : (view : List Spot) (test : Spot → Bool) (top : ℕ) (at : Anchor) (old : Option Spot) (s : Spot) → ChildrenLeft view test top at old → old ≡ Some s → s.level ≤ top
    → false ≡ any_deep top test (behind at view)
children_low view test top at old s left is low =
    sym (left.any ∙ ap (λ (o : Option Spot). any_deep top test (from_on view o)) is
    ∙ ap (list_any test) (take_false (λ (z : Spot). nat_lt top z.level) s (behind s.at view) (le-ltb top s.level low)))
