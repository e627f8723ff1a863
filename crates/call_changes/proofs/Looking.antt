-- Looks one after the other, and what is claimed where the list is told.
use Rattle.std.proofs.Common.{◌≡◌, ◌≤◌, ◌+◌, ℕ, true, Option, None, Some, Result, Ok, Err, List, refl, ap, subst, ◌∙◌, arith}
use Rattle.std.specs.Prelude.{IfOk, IfSome}
use Rattle.hal_base.proofs.ShelfLemmas.{fails_then, fails_as}
use Rattle.position_state.specs.Looks.{WalkView, Looked}
use Rattle.hal_base.specs.declared.place.Ilk.{Ilk}
use Rattle.hal_schema.specs.declared.row.Row.{Row}
use Rattle.hal_schema.specs.declared.schema.Schema.{Schema}
use Rattle.position_state.specs.declared.session.Session.{Session}
use Rattle.position_state.specs.declared.spot.Change.{Change}
use Rattle.position_state.specs.AfterChange.{IsLeft, LooksUpTo}
use Rattle.position_state.specs.Keep.{changed, kept_session}
use Rattle.dli_calls.specs.Changes.{no_name}

pub up_none : {f : Type 0} (most : ℕ) (a : WalkView) → a.live ≡ true → (f → ⊥) → LooksUpTo most f a a
up_none most a live calm = record {
  faults = record { later = omega arith; cause = λ is. absurd (calm is); alive = λ is. live; dead = λ is. absurd (calm is) };
  looks = omega arith;
  schema = refl;
  forest = refl;
  free = refl;
}

pub up_one : {f : Type 0} {a b : WalkView} → Looked f a b → LooksUpTo 1 f a b
up_one {f} {a} {b} one = record { faults = one.faults; looks = omega (arith, one.looks); schema = one.schema; forest = one.forest; free = one.free }

pub up_then : {f g : Type 0} {m n : ℕ} {a b c : WalkView} → LooksUpTo m f a b → LooksUpTo n g b c → LooksUpTo (m + n) g a c
up_then {f} {g} {m} {n} {a} {b} {c} first second = record {
  faults = fails_then first.faults second.faults;
  looks = omega (arith, first.looks, second.looks);
  schema = second.schema ∙ first.schema;
  forest = second.forest ∙ first.forest;
  free = second.free ∙ first.free;
}

pub up_more : {f : Type 0} {m n : ℕ} {a b : WalkView} → LooksUpTo m f a b → m ≤ n → LooksUpTo n f a b
up_more {f} {m} {n} {a} {b} looks le = record { faults = looks.faults; looks = omega (arith, looks.looks, le); schema = looks.schema; forest = looks.forest; free = looks.free }

pub up_as : {f g : Type 0} {m : ℕ} {a b : WalkView} → LooksUpTo m f a b → (f → g) → (g → f) → LooksUpTo m g a b
up_as looks to from = record { faults = fails_as looks.faults to from; looks = looks.looks; schema = looks.schema; forest = looks.forest; free = looks.free }

-- one fault, in two results
pub one_fault : {T U E : Type 0} (r : Result T E) (s : Result U E) (x e fault : E) → r ≡ Err x → s ≡ Err e → e ≡ x → (r ≡ Err fault → s ≡ Err fault) × (s ≡ Err fault → r ≡ Err fault)
one_fault r s x e fault first second same = (λ is. cc, λ is. cc)

pub ok_not_err : {T E : Type 0} (r : Result T E) (t : T) (e : E) → r ≡ Ok t → r ≡ Err e → ⊥
ok_not_err r t e ok err = cc

pub if_ok : {T E : Type 0} (r : Result T E) (P Q : T → Type 0) → ((x : T) → P x → Q x) → IfOk r P → IfOk r Q
if_ok (Ok x) P Q f h = f x h
if_ok (Err e) P Q f h = tt

-- ---- where the list is told

pub where_told : {X : Type 0} (o : Option X) (P : X → Type 0) → ((x : X) → o ≡ Some x → P x) → IfSome o P
where_told None P holds = tt
where_told (Some x) P holds = holds x refl

pub told_at : {X : Type 0} (o : Option X) (x : X) (P : X → Type 0) → o ≡ Some x → IfSome o P → P x
told_at o x P is holds = subst (λ (p : Option _). IfSome p P) is holds

-- what a change leaves of the session that makes it
pub left_by : (a : WalkView) (schema : Schema) (rows : List Row) (told change : Change) (old left : Session) → a.schema ≡ schema → a.forest ≡ Some rows → told ≡ change
    → IsLeft a told old left → left ≡ kept_session schema change rows (changed schema change no_name rows) old
left_by a schema rows told change old left so e same is =
    told_at a.forest rows (λ (rows : List Row). (name : Ilk) → left ≡ kept_session a.schema told rows (changed a.schema told name rows) old) e is no_name
    ∙ ap (λ (s : Schema). kept_session s told rows (changed s told no_name rows) old) so
    ∙ ap (λ (c : Change). kept_session schema c rows (changed schema c no_name rows) old) same
