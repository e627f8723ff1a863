-- Looks one after the other, and what is claimed where the list is told.
use Rattle.std.proofs.Common.{◌≡◌, ℕ, ◌+◌, ◌≤◌, true, cond, Option, None, Some, Result, Ok, Err, refl, subst, ◌∙◌, arith}
use Rattle.std.specs.Prelude.{List, IfSome, IsTrue}
use Rattle.std.specs.Option.{option_map_or}
use Rattle.std.specs.Str.{bytes_eq}
use Rattle.hal_base.proofs.ShelfLemmas.{fails_then, fails_as}
use Rattle.hal_schema.specs.declared.row.Row.{Row}
use Rattle.hal_schema.specs.Row.{row_named, row_level}
use Rattle.hal_schema.specs.Forest.{is_forest}
use Rattle.position_state.specs.declared.session.Anchor.{Anchor}
use Rattle.position_state.specs.declared.session.Anchor.TheVariants.{Front, At}
use Rattle.position_state.specs.declared.spot.Spot.{Spot}
use Rattle.position_state.specs.View.{view_of}
use Rattle.position_state.specs.Looks.{WalkView, Looked, Shows, tells_forest}
use Rattle.position_state.specs.AfterChange.{LooksUpTo, looks_for_place}

pub looks_none : {f : Type 0} (a : WalkView) → a.live ≡ true → (f → ⊥) → LooksUpTo 0 f a a
looks_none a live calm = record {
  faults = record { later = omega arith; cause = λ is. absurd (calm is); alive = λ is. live; dead = λ is. absurd (calm is) };
  looks = omega arith;
  schema = refl;
  forest = refl;
  free = refl;
}

pub looked_one : {f : Type 0} {a b : WalkView} → Looked f a b → LooksUpTo 1 f a b
looked_one {f} {a} {b} one = record { faults = one.faults; looks = omega (arith, one.looks); schema = one.schema; forest = one.forest; free = one.free }

pub looks_then : (m n : ℕ) {f g : Type 0} {a b c : WalkView} → LooksUpTo m f a b → LooksUpTo n g b c → LooksUpTo (m + n) g a c
looks_then m n first second = record {
  faults = fails_then first.faults second.faults;
  looks = omega (arith, first.looks, second.looks);
  schema = second.schema ∙ first.schema;
  forest = second.forest ∙ first.forest;
  free = second.free ∙ first.free;
}

pub looks_more : {m n : ℕ} {f : Type 0} {a b : WalkView} → LooksUpTo m f a b → m ≤ n → LooksUpTo n f a b
looks_more looks le = record { faults = looks.faults; looks = omega (arith, looks.looks, le); schema = looks.schema; forest = looks.forest; free = looks.free }

pub looks_as : {m : ℕ} {f g : Type 0} {a b : WalkView} → LooksUpTo m f a b → (f → g) → (g → f) → LooksUpTo m g a b
looks_as looks to from = record { faults = fails_as looks.faults to from; looks = looks.looks; schema = looks.schema; forest = looks.forest; free = looks.free }

-- one fault, in two results
pub one_fault : {T U E : Type 0} (r : Result T E) (s : Result U E) (x e fault : E) → r ≡ Err x → s ≡ Err e → e ≡ x → (r ≡ Err fault → s ≡ Err fault) × (s ≡ Err fault → r ≡ Err fault)
one_fault r s x e fault first second same = (λ is. cc, λ is. cc)

pub ok_not_err : {T E : Type 0} (r : Result T E) (t : T) (e : E) → r ≡ Ok t → r ≡ Err e → ⊥
ok_not_err r t e ok err = cc

-- ---- where the list is told

pub where_told : {X : Type 0} (o : Option X) (P : X → Type 0) → ((x : X) → o ≡ Some x → P x) → IfSome o P
where_told None P holds = tt
where_told (Some x) P holds = holds x refl

pub told_at : {X : Type 0} (o : Option X) (x : X) (P : X → Type 0) → o ≡ Some x → IfSome o P → P x
told_at o x P is holds = subst (λ (p : Option _). IfSome p P) is holds

pub forest_at : (a : WalkView) (rows : List Row) → IsTrue (tells_forest a) → a.forest ≡ Some rows → is_forest a.schema rows ≡ true
forest_at a rows h e = subst (λ (o : Option (List Row)). option_map_or (is_forest a.schema) o true ≡ true) e h

-- what a look shows of a walk that was looked at before
pub shows_at : (a b : WalkView) (rows : List Row) (index : Option ℕ) (wanted : List Spot → Option Spot) (spot : Option Spot) → b.schema ≡ a.schema → b.forest ≡ a.forest → a.forest ≡ Some rows
    → Shows b index wanted spot → spot ≡ wanted (view_of a.schema index rows)
shows_at a b rows index wanted spot schema forest is shows =
    subst (λ (s : _). spot ≡ wanted (view_of s index rows)) schema (told_at b.forest rows (λ r. spot ≡ wanted (view_of b.schema index r)) (forest ∙ is) shows)

-- how many looks a place takes is the same after other looks
pub same_looks : (a b : WalkView) (root : List ℕ) (place : Option Anchor) → b.schema ≡ a.schema → b.forest ≡ a.forest → looks_for_place b root place ≡ looks_for_place a root place
same_looks a b root None s f = refl
same_looks a b root (Some Front) s f = refl
same_looks a b root (Some (At name key entry)) s f = λ i. cond (bytes_eq key root) (option_map_or (λ rows. option_map_or (row_level (s i).types) (row_named rows name) 0) (f i) 255) 0
