-- Looks one after the other, and what is claimed where the list is told.
use Rattle.std.proofs.Common.{◌≡◌, ◌≤◌, ◌+◌, true, Option, None, Some, Result, Ok, Err, refl, sym, ap, subst, ◌∙◌, arith}
use Rattle.std.specs.Prelude.{List, IfSome, IsTrue}
use Rattle.std.specs.Option.{option_map_or}
use Rattle.hal_base.proofs.ShelfLemmas.{fails_then, fails_as}
use Rattle.hal_schema.specs.declared.row.Row.{Row}
use Rattle.hal_schema.specs.Forest.{is_forest}
use Rattle.position_state.specs.declared.spot.Spot.{Spot}
use Rattle.hal_schema.specs.declared.schema.Schema.{Schema}
use Rattle.position_state.specs.declared.session.Anchor.{Anchor}
use Rattle.position_state.specs.View.{view_of, is_place_of}
use Rattle.position_state.specs.Looks.{WalkView, Looked, Shows, tells_forest, stands_in}
use Rattle.call_gets.specs.Scan.{LooksOn, plain_view}
use Rattle.view_laws.specs.Views.{PlacesDiffer, LevelsAreOfTypes}
use Rattle.call_gets.proofs.Stepping.{Differ}
use Rattle.call_gets.proofs.Twins.{Keeps}

pub on_none : {f : Type 0} (a : WalkView) → a.live ≡ true → (f → ⊥) → LooksOn f a a
on_none a live calm = record {
  faults = record { later = omega arith; cause = λ is. absurd (calm is); alive = λ is. live; dead = λ is. absurd (calm is) };
  looks = omega arith;
  schema = refl;
  forest = refl;
  free = refl;
}

pub on_one : {f : Type 0} {a b : WalkView} → Looked f a b → LooksOn f a b
on_one {f} {a} {b} one = record { faults = one.faults; looks = omega (arith, one.looks); schema = one.schema; forest = one.forest; free = one.free }

-- one look is one more at most
pub one_more : {f : Type 0} {a b : WalkView} → Looked f a b → b.looks ≤ a.looks + 1
one_more {f} {a} {b} one = omega (arith, one.looks)

pub on_then : {f g : Type 0} {a b c : WalkView} → LooksOn f a b → LooksOn g b c → LooksOn g a c
on_then {f} {g} {a} {b} {c} first second = record {
  faults = fails_then first.faults second.faults;
  looks = omega (arith, first.looks, second.looks);
  schema = second.schema ∙ first.schema;
  forest = second.forest ∙ first.forest;
  free = second.free ∙ first.free;
}

pub on_as : {f g : Type 0} {a b : WalkView} → LooksOn f a b → (f → g) → (g → f) → LooksOn g a b
on_as looks to from = record { faults = fails_as looks.faults to from; looks = looks.looks; schema = looks.schema; forest = looks.forest; free = looks.free }

-- one fault, in two results
pub one_fault : {T U E : Type 0} (r : Result T E) (s : Result U E) (x e fault : E) → r ≡ Err x → s ≡ Err e → e ≡ x → (r ≡ Err fault → s ≡ Err fault) × (s ≡ Err fault → r ≡ Err fault)
one_fault r s x e fault first second same = (λ is. cc, λ is. cc)

pub ok_not_err : {T E : Type 0} (r : Result T E) (t : T) (e : E) → r ≡ Ok t → r ≡ Err e → ⊥
ok_not_err r t e ok err = cc

-- ---- where the list is told

pub where_told : {X : Type 0} (o : Option X) (P : X → Type 0) → ((x : X) → o ≡ Some x → P x) → IfSome o P
where_told None P holds = tt
where_told (Some x) P holds = holds x refl

pub told_at : {X : Type 0} (o : Option X) (x : X) (P : X → Type 0) → o ≡ Some x → IfSome o P → P x
told_at o x P is holds = subst (λ (p : Option _). IfSome p P) is holds

pub forest_at : (a : WalkView) (rows : List Row) → IsTrue (tells_forest a) → a.forest ≡ Some rows → is_forest a.schema rows ≡ true
forest_at a rows h e = subst (λ (o : Option (List Row)). option_map_or (is_forest a.schema) o true ≡ true) e h

-- what a look shows of a walk that was looked at before
pub shows_at : (a b : WalkView) (rows : List Row) (wanted : List Spot → Option Spot) (spot : Option Spot) → b.schema ≡ a.schema → b.forest ≡ a.forest → a.forest ≡ Some rows
    → Shows b None wanted spot → spot ≡ wanted (view_of a.schema None rows)
shows_at a b rows wanted spot schema forest is shows =
    subst (λ (s : _). spot ≡ wanted (view_of s None rows)) schema (told_at b.forest rows (λ r. spot ≡ wanted (view_of b.schema None r)) (forest ∙ is) shows)

pub shows_for : (a b : WalkView) (schema : Schema) (rows : List Row) (wanted : List Spot → Option Spot) (spot : Option Spot) → b.schema ≡ a.schema → b.forest ≡ a.forest → a.schema ≡ schema → a.forest ≡ Some rows
    → Shows b None wanted spot → spot ≡ wanted (plain_view schema rows)
shows_for a b schema rows wanted spot bs bf so is shows =
    shows_at a b rows wanted spot bs bf is shows ∙ ap (λ (s : Schema). wanted (view_of s None rows)) so

pub stands_at : (a b : WalkView) (schema : Schema) (at : Anchor) → b.schema ≡ a.schema → b.forest ≡ a.forest → a.schema ≡ schema
    → ((rows : List Row) → a.forest ≡ Some rows → is_place_of (plain_view schema rows) at ≡ true) → IsTrue (stands_in b None at)
stands_at a b schema at bs bf so h = ap (λ o. option_map_or (λ rows. is_place_of (view_of b.schema None rows) at) o true) bf ∙ by a.forest refl
  where
    by : (o : Option (List Row)) → a.forest ≡ o → option_map_or (λ rows. is_place_of (view_of b.schema None rows) at) o true ≡ true
    by None e = refl
    by (Some rows) e = ap (λ (s : Schema). is_place_of (view_of s None rows) at) (bs ∙ so) ∙ h rows e

pub place_told : (a : WalkView) (schema : Schema) (rows : List Row) (at : Anchor) → a.schema ≡ schema → a.forest ≡ Some rows → IsTrue (stands_in a None at) → is_place_of (plain_view schema rows) at ≡ true
place_told a schema rows at so e h =
    ap (λ (s : Schema). is_place_of (view_of s None rows) at) (sym so) ∙ ap (λ o. option_map_or (λ rows. is_place_of (view_of a.schema None rows) at) o true) (sym e) ∙ h

pub differ_told : PlacesDiffer → (a : WalkView) (schema : Schema) (rows : List Row) → IsTrue (tells_forest a) → a.schema ≡ schema → a.forest ≡ Some rows → Differ (plain_view schema rows)
differ_told law a schema rows told so e = λ front rest spot split. law schema rows front rest spot (ap (λ (s : Schema). is_forest s rows) (sym so) ∙ forest_at a rows told e) split

pub keeps_told : PlacesDiffer → LevelsAreOfTypes → (a : WalkView) (schema : Schema) (rows : List Row) → IsTrue (tells_forest a) → a.schema ≡ schema → a.forest ≡ Some rows → Keeps schema.types (plain_view schema rows)
keeps_told law levels a schema rows told so e = record { differ = differ_told law a schema rows told so e; levels = levels schema rows }

-- what is shown stays so after other looks
pub found_after : (a b : WalkView) (P : List Row → Type 0) → b.forest ≡ a.forest → ((rows : List Row) → a.forest ≡ Some rows → P rows) → (rows : List Row) → b.forest ≡ Some rows → P rows
found_after a b P bf h rows e = h rows (sym bf ∙ e)

pub told_after : (a b : WalkView) (P : List Row → Type 0) → b.forest ≡ a.forest → IfSome b.forest P → IfSome a.forest P
told_after a b P bf h = subst (λ (o : Option (List Row)). IfSome o P) bf h
