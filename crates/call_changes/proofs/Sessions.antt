-- Sessions that stand in a list, and what is left of them one by one.
use Rattle.std.proofs.Common.{◌≡◌, ◌+◌, ◌<◌, ℕ, Bool, true, false, ◌&&◌, cond, List, [], ◌∷◌, ◌++◌, map, length, take, Option, None, Some, refl, sym, ap, subst, ◌∙◌, IsTrue}
use Rattle.std.specs.Prelude.{find, slice_index_or, is_none}
use Rattle.std.specs.List.{list_all}
use Rattle.std.proofs.lemmas.Bool.{and_parts}
use Rattle.std.proofs.lemmas.List.{map-append, take_more}
use Rattle.std.proofs.lemmas.List.Folds.{list_all_at}
use Rattle.hal_base.proofs.ShelfLemmas.{fails_then, fails_as}
use Rattle.hal_schema.specs.declared.row.Row.{Row}
use Rattle.hal_schema.specs.declared.schema.Schema.{Schema}
use Rattle.position_state.specs.Lawful.{Stands, is_index_of, is_row_of}
use Rattle.position_state.specs.Looks.{WalkView}
use Rattle.position_state.specs.View.{is_place_of, view_of}
use Rattle.call_runs.specs.declared.state.OpenSession.{OpenSession}
use Rattle.call_changes.specs.Answer.{is_plain, is_standing}
use Rattle.call_changes.specs.Outcome.{OnlyLooks}

-- ---- one of many

holds_by : {X : Type 0} (p : X → Bool) (xs : List X) (i : ℕ) (d : X) (b : Bool) → p (slice_index_or xs i d) ≡ b → i < length xs → list_all p xs ≡ true → b ≡ true
holds_by p xs i d true is lt all = refl
holds_by p xs i d false is lt all = let no = list_all_at p xs i d lt is in cc

-- what all do, the one at a place does
pub holds_at : {X : Type 0} (p : X → Bool) (xs : List X) (i : ℕ) (d : X) → i < length xs → list_all p xs ≡ true → p (slice_index_or xs i d) ≡ true
holds_at p xs i d lt all = holds_by p xs i d (p (slice_index_or xs i d)) refl lt all

-- and the first that passes a test
pub found_holds : {X : Type 0} (p q : X → Bool) (xs : List X) (x : X) → list_all p xs ≡ true → find q xs ≡ Some x → p x ≡ true
found_holds p q [] x all is = absurd (let no : ⊥ = cc in no)
found_holds p q (y ∷ xs) x all is = let a = and_parts (p y) (list_all p xs) all in by (q y) a.0 (λ more. found_holds p q xs x a.1 more) is
  where
    by : (b : Bool) → p y ≡ true → (find q xs ≡ Some x → p x ≡ true) → cond b (Some y) (find q xs) ≡ Some x → p x ≡ true
    by true own more e = let same : y ≡ x = cc in ap p (sym same) ∙ own
    by false own more e = more e

-- ---- sessions

pub plain_index : (one : OpenSession) → is_plain one ≡ true → one.session.index ≡ None
plain_index one plain = by one.session.index plain
  where
    by : (index : Option ℕ) → is_none index ≡ true → index ≡ None
    by None e = refl
    by (Some i) e = absurd (let no : ⊥ = cc in no)

pub stands : (schema : Schema) (rows : List Row) (one : OpenSession) → is_standing schema rows one ≡ true → Stands schema rows one.session
stands schema rows one is =
    let a = and_parts (is_plain one && is_place_of (view_of schema one.session.index rows) one.session.anchor && is_row_of schema rows one.session.held) (is_row_of schema rows one.session.parent) is in
    let b = and_parts (is_plain one && is_place_of (view_of schema one.session.index rows) one.session.anchor) (is_row_of schema rows one.session.held) a.0 in
    let c = and_parts (is_plain one) (is_place_of (view_of schema one.session.index rows) one.session.anchor) b.0 in
    record {
      index = subst (λ (index : Option ℕ). IsTrue (is_index_of schema index)) (sym (plain_index one c.0)) refl;
      anchor = c.1;
      held = b.1;
      parent = a.1;
    }

-- ---- looks

pub only_then : {f g : Type 0} {a b c : WalkView} → OnlyLooks f a b → OnlyLooks g b c → OnlyLooks g a c
only_then first second = record {
  faults = fails_then first.faults second.faults;
  schema = second.schema ∙ first.schema;
  forest = second.forest ∙ first.forest;
  free = second.free ∙ first.free;
}

pub only_as : {f g : Type 0} {a b : WalkView} → OnlyLooks f a b → (f → g) → (g → f) → OnlyLooks g a b
only_as looks to from = record { faults = fails_as looks.faults to from; schema = looks.schema; forest = looks.forest; free = looks.free }

-- ---- one more

-- what is made of the items up to one more
pub mapped_more : {X Y : Type 0} (f : X → Y) (xs : List X) (i : ℕ) (d : X) (done : List Y) (y : Y) → i < length xs → done ≡ map f (take i xs) → y ≡ f (slice_index_or xs i d) → done ++ y ∷ [] ≡ map f (take (i + 1) xs)
mapped_more f xs i d done y lt so is =
    ap (λ l. l ++ y ∷ []) so ∙ ap (λ z. map f (take i xs) ++ z ∷ []) is
    ∙ sym (map-append f (take i xs) (slice_index_or xs i d ∷ [])) ∙ ap (map f) (sym (take_more xs i d lt))
