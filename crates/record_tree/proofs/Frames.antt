-- What a call that changes a cell of the side leaves of the rest.
use Rattle.std.proofs.Common.{◌≡◌, ℕ, ◌+◌, ◌<◌, ◌≤◌, ◌==◌, nat_lt, Bool, true, false, List, length, drop, Option, None, Some, Result, Ok, Err, refl, sym, ap, subst, ◌∙◌, arith, if◌then◌else◌}
use Rattle.std.specs.Prelude.{IsSome, OnOk, OnErr, IfOk, MatchResult}
use Rattle.std.proofs.lemmas.Bool.{ltb-true, false≢true}
use Rattle.hal_base.specs.declared.pages.SetId.{SetId}
use Rattle.hal_base.specs.declared.place.Shape.{Shape}
use Rattle.hal_base.specs.ShelfCalls.{ShelfView, ChangedIn, OnlyReads}
use Rattle.hal_base.proofs.ShelfLemmas.{keeps_then, keeps_as}
use Rattle.std.proofs.lemmas.List.{drop-drop, length-drop}
use Rattle.free_space.specs.declared.side.SideCells.{SideCells}
use Rattle.segment_blocks.specs.declared.tile.Cell.{Cell}
use Rattle.free_space.specs.Side.{IsFirst, lettered, place_at, cell_in, side_cell}
use Rattle.free_space.specs.SideCalls.{IsTold, OnlyChangesAt, set_at}
use Rattle.record_tree.specs.declared.records.Records.{Records}
use Rattle.record_tree.specs.Sides.{root_set}
use Rattle.record_tree.specs.Standing.{StandsForRecords, HoldsRow}
use Rattle.record_tree.specs.Changing.{IsElsewhere, ChangesSide}
use Rattle.record_tree.proofs.RootRows.{Alike}

-- a cell stands at addresses of the ten letters alone
pub within_ten : (first : SetId) (shapes : List Shape) (shelf : ShelfView) (at : ℕ) (cell : Cell) → side_cell first shapes shelf at ≡ Some cell → place_at at < 10
unfolding side_cell
within_ten first shapes shelf at cell is = by (nat_lt (place_at at) 10) refl is
  where
    by : (b : Bool) → nat_lt (place_at at) 10 ≡ b → (if b then cell_in shapes (lettered first (place_at at)) (shelf.pages (lettered first (place_at at))) at else None) ≡ Some cell → place_at at < 10
    by true e f = ltb-true (place_at at) 10 e
    by false e f = let none : None ≡ Some cell = f in cc

-- the root set is none of the letters'
pub roots_apart : (first : SetId) (place : ℕ) → IsFirst first → place < 10 → lettered first place ≡ root_set first → ⊥
roots_apart first place f below e = by (first.letter == 65) (ap (λ (s : SetId). s.letter) e)
  where
    by : (b : Bool) → first.letter + place ≡ (if b then 88 else 89) → ⊥
    by true is = let high = f.high in omega (arith, high, below, is)
    by false is = let high = f.high in omega (arith, high, below, is)

pub untold_all : (old new : ShelfView) (changed : SetId) → Alike old → Alike new → (old.pages changed ≡ None → new.pages changed ≡ None) → (set : SetId) → old.pages set ≡ None → (other : SetId) → new.pages other ≡ None
untold_all old new changed before after untold set none other = after changed other (untold (before set changed none))

pub told_back : (old new : ShelfView) (changed : SetId) → Alike old → Alike new → (old.pages changed ≡ None → new.pages changed ≡ None) → (set : SetId) → IsSome (new.pages set) → IsSome (old.pages set)
told_back old new changed before after untold set told = by (old.pages set) refl
  where
    by : (o : Option (List (List ℕ))) → old.pages set ≡ o → IsSome o
    by None is = absurd (false≢true (subst (λ (p : Option (List (List ℕ))). IsSome p) (untold_all old new changed before after untold set is set) told))
    by (Some pages) is = refl

-- pages of a set that isn't the side's, where the address is one of the ten letters if the pages are told
pub pages_apart : (side : SideCells) (old new : ShelfView) (at : ℕ) → Alike old → Alike new → (IsTold side old → place_at at < 10) → ChangedIn (set_at side at) old new
    → (set : SetId) → ((place : ℕ) → place < 10 → lettered side.first place ≡ set → ⊥) → new.pages set ≡ old.pages set
pages_apart side old new at before after within changed set apart = by (old.pages side.first) refl
  where
    by : (o : Option (List (List ℕ))) → old.pages side.first ≡ o → new.pages set ≡ old.pages set
    by None is = untold_all old new (set_at side at) before after changed.untold side.first is set ∙ sym (before side.first set is)
    by (Some pages) is = changed.others set (λ e. apart (place_at at) (within (subst (λ (p : Option (List (List ℕ))). IsSome p) (sym is) refl)) (sym e))

-- of an address at which a row stands
row_within : (records : Records) (shelf : ShelfView) (at : ℕ) (P : Cell → Type 0) → HoldsRow records shelf at P → IsTold records.cells shelf → place_at at < 10
row_within records shelf at P row told = let (cell, there, holds) = row told in within_ten records.cells.first records.cells.shapes shelf at cell there

pub root_pages : (records : Records) (old new : ShelfView) (at : ℕ) (P : Cell → Type 0) → Alike old → Alike new → StandsForRecords records old → HoldsRow records old at P → ChangedIn (set_at records.cells at) old new
    → new.pages records.roots.set ≡ old.pages records.roots.set
root_pages records old new at P before after stands row changed =
    pages_apart records.cells old new at before after (row_within records old at P row) changed records.roots.set
    (λ place below e. roots_apart records.cells.first place stands.cells.first below (e ∙ stands.of.roots ∙ ap root_set (sym stands.of.first)))

pub changes_at : {s f : Type 0} (records : Records) (old new : ShelfView) (at : ℕ) → Alike old → Alike new → (IsTold records.cells old → place_at at < 10) → OnlyChangesAt records.cells at s f old new → ChangesSide 0 records s f old new
changes_at records old new at before after within leaves = record {
  keeps = leaves.keeps;
  pages = λ set apart. pages_apart records.cells old new at before after within leaves.changed set apart.letters;
  places = λ set apart. leaves.changed.places set;
  untold = λ set none. untold_all old new (set_at records.cells at) before after leaves.changed.untold set none set;
  count = 0;
  few = omega arith;
  enough = omega arith;
  free = leaves.changed.free;
}

pub changes_cell : {s f : Type 0} (records : Records) (old new : ShelfView) (at : ℕ) (P : Cell → Type 0) → Alike old → Alike new → HoldsRow records old at P → OnlyChangesAt records.cells at s f old new → ChangesSide 0 records s f old new
changes_cell records old new at P before after row leaves = changes_at records old new at before after (row_within records old at P row) leaves

-- one call behind the other, the same fault by another name, and a call that changed nothing
pub side_then : (m n : ℕ) {s t u f g : Type 0} (records later : Records) {a b c : ShelfView} → later.cells.first ≡ records.cells.first → later.roots.set ≡ records.roots.set → ChangesSide m records s f a b
    → ChangesSide n later t g b c → (s → t → u) → ChangesSide (m + n) records u g a c
side_then m n records later {a} {b} {c} first roots one two goes =
    let beside : (set : SetId) → IsElsewhere records set → IsElsewhere later set = λ set apart. record {
      letters = λ place below e. apart.letters place below (ap (λ (x : SetId). lettered x place) (sym first) ∙ e);
      roots = λ e. apart.roots (sym roots ∙ e);
    } in
    record {
      keeps = keeps_then one.keeps two.keeps goes;
      pages = λ set apart. two.pages set (beside set apart) ∙ one.pages set apart;
      places = λ set apart. two.places set (beside set apart) ∙ one.places set apart;
      untold = λ set none. two.untold set (one.untold set none);
      count = one.count + two.count;
      few = omega (arith, one.few, two.few);
      enough = omega (arith, one.enough, two.enough, ap (λ (free : List ℕ). length free) one.free, length-drop one.count a.free);
      free = two.free ∙ ap (λ (free : List ℕ). drop two.count free) one.free ∙ drop-drop two.count one.count a.free;
    }

pub side_fault : {m : ℕ} {s f g : Type 0} {records : Records} {a b : ShelfView} → ChangesSide m records s f a b → (f → g) → (g → f) → ChangesSide m records s g a b
side_fault leaves to from = record {
  keeps = keeps_as leaves.keeps to from;
  pages = leaves.pages;
  places = leaves.places;
  untold = leaves.untold;
  count = leaves.count;
  few = leaves.few;
  enough = leaves.enough;
  free = leaves.free;
}

pub side_more : {m n : ℕ} {s f : Type 0} {records : Records} {a b : ShelfView} → ChangesSide m records s f a b → m ≤ n → ChangesSide n records s f a b
side_more leaves le = record {
  keeps = leaves.keeps;
  pages = leaves.pages;
  places = leaves.places;
  untold = leaves.untold;
  count = leaves.count;
  few = omega (arith, leaves.few, le);
  enough = leaves.enough;
  free = leaves.free;
}

pub side_read : {m : ℕ} (n : ℕ) {s f : Type 0} (records : Records) {a b : ShelfView} → OnlyReads m s f a b → ChangesSide n records s f a b
side_read n records reads = record {
  keeps = reads.keeps;
  pages = λ set apart. reads.same.pages set;
  places = λ set apart. reads.same.places set;
  untold = λ set none. reads.same.pages set ∙ none;
  count = 0;
  few = omega arith;
  enough = omega arith;
  free = reads.same.free;
}

pub side_none : {s f : Type 0} (most : ℕ) (records : Records) (a : ShelfView) → s → a.live ≡ true → (f → ⊥) → ChangesSide most records s f a a
side_none most records a still live never = record {
  keeps = record {
    is_steady = still;
    takes = λ set kind. refl;
    faults = record { later = omega arith; cause = λ is. absurd (never is); alive = λ off. live; dead = λ is. absurd (never is) };
    fetches = omega arith;
  };
  pages = λ set apart. refl;
  places = λ set apart. refl;
  untold = λ set none. none;
  count = 0;
  few = omega arith;
  enough = omega arith;
  free = refl;
}

-- ---- by the answer

pub ok_match : {T E : Type 0} (P R : T → Type 0) (Q : E → Type 0) (r : Result T E) → MatchResult r P Q → ((x : T) → P x → R x) → IfOk r R
ok_match P R Q (Ok x) holds to = to x holds
ok_match P R Q (Err e) holds to = tt

pub ok_from : {T E : Type 0} (x : T) (P : T → Type 0) (r : Result T E) → IfOk r (λ y. y ≡ x) → P x → IfOk r P
ok_from x P (Ok y) same holds = subst P (sym same) holds
ok_from x P (Err e) same holds = tt

pub ok_both : {T E : Type 0} (P Q R : T → Type 0) (r : Result T E) → IfOk r P → IfOk r Q → ((x : T) → P x → Q x → R x) → IfOk r R
ok_both P Q R (Ok x) one two to = to x one two
ok_both P Q R (Err e) one two to = tt

pub ok_weaker : {T E A B : Type 0} (r : Result T E) → OnOk r A → (A → B) → OnOk r B
ok_weaker (Ok t) holds to = to holds
ok_weaker (Err e) holds to = tt

pub either_way : {T E A B P : Type 0} (r : Result T E) → OnOk r A → OnErr r B → (A → P) → (B → P) → P
either_way (Ok t) done failed to from = to done
either_way (Err e) done failed to from = from failed
