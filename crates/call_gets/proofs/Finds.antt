-- The element at one place, looked for behind another in its record.
use Rattle.std.proofs.Common.{◌≡◌, ℕ, ◌+◌, ◌≤◌, true, false, cond, List, [], ◌∷◌, Option, None, Some, sym, ap, subst, ◌∙◌, arith}
use Rattle.std.specs.Prelude.{nat_lt, find, IfSome}
use Rattle.position_state.specs.declared.session.Anchor.{Anchor}
use Rattle.position_state.specs.declared.spot.Spot.{Spot}
use Rattle.position_state.specs.View.{is_at, behind}
use Rattle.position_state.specs.Looks.{first_behind}
use Rattle.call_gets.specs.Below.{in_record}
use Rattle.call_gets.specs.Scan.{IsFound, from_on, inside_ahead}
use Rattle.call_gets.proofs.Stepping.{Differ, ends_any, ends_behind, next_of}

-- it is found behind the place exactly where it is found from this element on
pub record LaterLeft (view : List Spot) (at place : Anchor) (next : Option Spot) : Type 0 where
  pub same : find (is_at place) (in_record (behind at view)) ≡ find (is_at place) (in_record (from_on view next))
  pub found : IfSome next (IsFound view)

pub later_begins : (view : List Spot) (at place : Anchor) (next : Option Spot) → Differ view → next ≡ first_behind at view → LaterLeft view at place next
later_begins view at place next d e =
    let q = next_of view (behind at view) d (ends_any view at) in
    record {
      same = ap (λ (ys : List Spot). find (is_at place) (in_record ys)) q.is ∙ ap (λ (o : Option Spot). find (is_at place) (in_record (from_on view o))) (sym e);
      found = subst (λ (o : Option Spot). IfSome o (IsFound view)) (sym e) q.found;
    }

on_next : (view : List Spot) (at place : Anchor) (old : Option Spot) (s : Spot) → LaterLeft view at place old → old ≡ Some s → nat_lt 1 s.level ≡ true
    → find (is_at place) (in_record (behind at view)) ≡ cond (is_at place s) (Some s) (find (is_at place) (in_record (behind s.at view)))
on_next view at place old s l k deep =
    l.same ∙ ap (λ (o : Option Spot). find (is_at place) (in_record (from_on view o))) k ∙ ap (λ b. find (is_at place) (cond b (s ∷ in_record (behind s.at view)) [])) deep

pub later_goes : (view : List Spot) (at place : Anchor) (old : Option Spot) (s : Spot) (next : Option Spot) → Differ view → LaterLeft view at place old → old ≡ Some s → nat_lt 1 s.level ≡ true → is_at place s ≡ false → next ≡ first_behind s.at view
    → LaterLeft view at place next
later_goes view at place old s next d l k deep off e =
    let f : IsFound view s = subst (λ (o : Option Spot). IfSome o (IsFound view)) k l.found in
    let q = next_of view (behind s.at view) d (ends_behind view s d f) in
    record {
      same = on_next view at place old s l k deep ∙ ap (λ b. cond b (Some s) (find (is_at place) (in_record (behind s.at view)))) off
          ∙ ap (λ (ys : List Spot). find (is_at place) (in_record ys)) q.is ∙ ap (λ (o : Option Spot). find (is_at place) (in_record (from_on view o))) (sym e);
      found = subst (λ (o : Option Spot). IfSome o (IsFound view)) (sym e) q.found;
    }

pub later_hits : (view : List Spot) (at place : Anchor) (old : Option Spot) (s : Spot) → LaterLeft view at place old → old ≡ Some s → nat_lt 1 s.level ≡ true → is_at place s ≡ true → Some s ≡ find (is_at place) (in_record (behind at view))
later_hits view at place old s l k deep on = sym (on_next view at place old s l k deep ∙ ap (λ b. cond b (Some s) (find (is_at place) (in_record (behind s.at view)))) on)

pub later_ends : (view : List Spot) (at place : Anchor) (old : Option Spot) → LaterLeft view at place old → old ≡ None → None ≡ find (is_at place) (in_record (behind at view))
later_ends view at place old l k = sym (l.same ∙ ap (λ (o : Option Spot). find (is_at place) (in_record (from_on view o))) k)

-- a root ends the record
pub later_out : (view : List Spot) (at place : Anchor) (old : Option Spot) (s : Spot) → LaterLeft view at place old → old ≡ Some s → nat_lt 1 s.level ≡ false → None ≡ find (is_at place) (in_record (behind at view))
later_out view at place old s l k low =
    sym (l.same ∙ ap (λ (o : Option Spot). find (is_at place) (in_record (from_on view o))) k ∙ ap (λ b. find (is_at place) (cond b (s ∷ in_record (behind s.at view)) [])) low)

pub later_found : (view : List Spot) (at place : Anchor) (old : Option Spot) (s : Spot) → LaterLeft view at place old → old ≡ Some s → IsFound view s
later_found view at place old s l k = subst (λ (o : Option Spot). IfSome o (IsFound view)) k l.found

-- how often was looked, and what of the record is ahead
abbrev pub LaterFew : List Spot → Anchor → Option Spot → ℕ → ℕ → Type 0
LaterFew view at next old new = new + inside_ahead (Some 1) (from_on view next) ≤ old + (1 + inside_ahead (Some 1) (behind at view))

pub few_left : (view : List Spot) (at : Anchor) (next : Option Spot) (old new : ℕ) → LaterFew view at next old new → new ≤ old + (1 + inside_ahead (Some 1) (behind at view))
few_left view at next old new h = omega (arith, h)

pub few_begins : (view : List Spot) (at : Anchor) (next : Option Spot) (old new : ℕ) → Differ view → next ≡ first_behind at view → new ≤ old + 1 → LaterFew view at next old new
few_begins view at next old new d e h =
    let same = ap (inside_ahead (Some 1)) (next_of view (behind at view) d (ends_any view at)).is ∙ ap (λ (o : Option Spot). inside_ahead (Some 1) (from_on view o)) (sym e) in
    omega (arith, same, h)

pub few_goes : (view : List Spot) (at place : Anchor) (next : Option Spot) (s : Spot) (other : Option Spot) (old mid new : ℕ) → Differ view → LaterLeft view at place next → LaterFew view at next old mid → next ≡ Some s → nat_lt 1 s.level ≡ true
    → other ≡ first_behind s.at view → new ≤ mid + 1 → LaterFew view at other old new
few_goes view at place next s other old mid new d l few k deep e h =
    let f : IsFound view s = subst (λ (o : Option Spot). IfSome o (IsFound view)) k l.found in
    let here = ap (λ (o : Option Spot). inside_ahead (Some 1) (from_on view o)) k ∙ ap (λ b. cond b (1 + inside_ahead (Some 1) (behind s.at view)) 0) deep in
    let same = ap (inside_ahead (Some 1)) (next_of view (behind s.at view) d (ends_behind view s d f)).is ∙ ap (λ (o : Option Spot). inside_ahead (Some 1) (from_on view o)) (sym e) in
    omega (arith, few, here, same, h)
