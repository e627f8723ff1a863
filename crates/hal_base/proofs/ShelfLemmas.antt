-- How what calls over a shelf leave goes on over several of them.
use Rattle.std.proofs.Common.{◌≡◌, ℕ, zero, ◌+◌, ◌≤◌, Bool, List, [], ◌++◌, length, take, drop, slice_get, Option, None, refl, sym, ◌∙◌, ap, subst, arith}
use Rattle.std.proofs.Math.Seq.{take-add}
use Rattle.std.proofs.lemmas.List.{append_assoc, append-nil, drop-drop, length-drop}
use Rattle.hal_base.specs.Fault.{Fails, Rose}
use Rattle.hal_base.specs.Pages.{SameSets, SameOthers}
use Rattle.hal_base.specs.ShelfCalls.{ShelfView, Keeps, SameShelf, ChangedIn, GrownBy, OnlyReads, OnlyChanges, OnlyGrows}
use Rattle.hal_base.specs.declared.pages.SetId.{SetId}

pub rose_before : (a b c : ℕ) → a ≤ b → Rose b c → Rose a c
rose_before a b c le rose = omega (arith, le, rose)

-- a call that didn't fail, and another; and the same fault by another name
pub fails_then : {f g : Type 0} {a b c : ℕ} {m n : Bool} → Fails f a b m → Fails g b c n → Fails g a c n
fails_then {f} {g} {a} {b} {c} first second = record {
  later = omega (arith, first.later, second.later);
  cause = λ no. rose_before a b c first.later (second.cause no);
  alive = second.alive;
  dead = second.dead;
}

pub fails_as : {f g : Type 0} {a b : ℕ} {m : Bool} → Fails f a b m → (f → g) → (g → f) → Fails g a b m
fails_as fails to from = record { later = fails.later; cause = λ no. fails.cause (from no); alive = λ yes. fails.alive (λ no. yes (to no)); dead = λ no. fails.dead (from no) }

pub keeps_then : {s t u f g : Type 0} {a b c : ShelfView} → Keeps s f a b → Keeps t g b c → (s → t → u) → Keeps u g a c
keeps_then {s} {t} {u} {f} {g} {a} {b} {c} first second then = record {
  is_steady = then first.is_steady second.is_steady;
  takes = λ set kind. second.takes set kind ∙ first.takes set kind;
  faults = fails_then first.faults second.faults;
  fetches = omega (arith, first.fetches, second.fetches);
}

pub keeps_as : {s f g : Type 0} {a b : ShelfView} → Keeps s f a b → (f → g) → (g → f) → Keeps s g a b
keeps_as keeps to from = record { is_steady = keeps.is_steady; takes = keeps.takes; faults = fails_as keeps.faults to from; fetches = keeps.fetches }

pub same_none : (a : ShelfView) → SameShelf a a
same_none a = record { pages = λ set. refl; places = λ set. refl; free = refl }

pub same_then : {a b c : ShelfView} → SameShelf a b → SameShelf b c → SameShelf a c
same_then first second = record { pages = λ set. second.pages set ∙ first.pages set; places = λ set. second.places set ∙ first.places set; free = second.free ∙ first.free }

pub same_changed : (set : SetId) {a b : ShelfView} → SameShelf a b → ChangedIn set a b
same_changed set same = record { others = λ other apart. same.pages other; untold = λ none. same.pages set ∙ none; places = same.places; free = same.free }

pub changed_then : {set : SetId} {a b c : ShelfView} → ChangedIn set a b → ChangedIn set b c → ChangedIn set a c
changed_then first second = record {
  others = λ other apart. second.others other apart ∙ first.others other apart;
  untold = λ none. second.untold (first.untold none);
  places = λ set. second.places set ∙ first.places set;
  free = second.free ∙ first.free;
}

pub changed_grown : {set : SetId} {a b : ShelfView} → ChangedIn set a b → GrownBy 0 set a b
changed_grown {set} {a} {b} changed = record {
  others = changed.others;
  untold = changed.untold;
  other_places = λ other apart. changed.places other;
  placed = changed.places set ∙ sym (append-nil (a.places set));
  free = changed.free;
  enough = omega arith;
}

pub grown_changed : {set : SetId} {a b : ShelfView} → GrownBy 0 set a b → SameSets a.places b.places → ChangedIn set a b
grown_changed grown places = record { others = grown.others; untold = grown.untold; places = places; free = grown.free }

-- pages added twice
pub grown_then : (m n : ℕ) {set : SetId} {a b c : ShelfView} → GrownBy m set a b → GrownBy n set b c → GrownBy (m + n) set a c
grown_then m n {set} {a} {b} {c} first second = record {
  others = λ other apart. second.others other apart ∙ first.others other apart;
  untold = λ none. second.untold (first.untold none);
  other_places = λ other apart. second.other_places other apart ∙ first.other_places other apart;
  placed = second.placed ∙ ap (λ (free : List ℕ). b.places set ++ take n free) first.free ∙ ap (λ (places : List ℕ). places ++ take n (drop m a.free)) first.placed
      ∙ append_assoc (a.places set) (take m a.free) (take n (drop m a.free)) ∙ ap (λ (more : List ℕ). a.places set ++ more) (sym (take-add m n a.free));
  free = second.free ∙ ap (λ (free : List ℕ). drop n free) first.free ∙ drop-drop n m a.free;
  enough = omega (arith, first.enough, second.enough, ap (λ (free : List ℕ). length free) first.free, length-drop m a.free);
}

pub reads_then : (m n : ℕ) {s t u f g : Type 0} {a b c : ShelfView} → OnlyReads m s f a b → OnlyReads n t g b c → (s → t → u) → OnlyReads (m + n) u g a c
reads_then m n first second then = record {
  keeps = keeps_then first.keeps second.keeps then;
  same = same_then first.same second.same;
  few = omega (arith, first.few, second.few);
}

pub reads_more : {m n : ℕ} {s f : Type 0} {a b : ShelfView} → OnlyReads m s f a b → m ≤ n → OnlyReads n s f a b
reads_more reads le = record { keeps = reads.keeps; same = reads.same; few = omega (arith, reads.few, le) }

pub reads_as : {m : ℕ} {s f g : Type 0} {a b : ShelfView} → OnlyReads m s f a b → (f → g) → (g → f) → OnlyReads m s g a b
reads_as reads to from = record { keeps = keeps_as reads.keeps to from; same = reads.same; few = reads.few }

pub reads_changes : {m : ℕ} (set : SetId) {s f : Type 0} {a b : ShelfView} → OnlyReads m s f a b → OnlyChanges set s f a b
reads_changes set reads = record { keeps = reads.keeps; changed = same_changed set reads.same }

pub changes_then : {set : SetId} {s t u f g : Type 0} {a b c : ShelfView} → OnlyChanges set s f a b → OnlyChanges set t g b c → (s → t → u) → OnlyChanges set u g a c
changes_then first second then = record { keeps = keeps_then first.keeps second.keeps then; changed = changed_then first.changed second.changed }

pub changes_as : {set : SetId} {s f g : Type 0} {a b : ShelfView} → OnlyChanges set s f a b → (f → g) → (g → f) → OnlyChanges set s g a b
changes_as changes to from = record { keeps = keeps_as changes.keeps to from; changed = changes.changed }

pub changes_grows : {set : SetId} {s f : Type 0} {a b : ShelfView} → OnlyChanges set s f a b → OnlyGrows 0 set s f a b
changes_grows changes = record { keeps = changes.keeps; grown = changed_grown changes.changed }

pub grows_then : (m n : ℕ) {set : SetId} {s t u f g : Type 0} {a b c : ShelfView} → OnlyGrows m set s f a b → OnlyGrows n set t g b c → (s → t → u) → OnlyGrows (m + n) set u g a c
grows_then m n first second then = record { keeps = keeps_then first.keeps second.keeps then; grown = grown_then m n first.grown second.grown }

pub grows_as : {m : ℕ} {set : SetId} {s f g : Type 0} {a b : ShelfView} → OnlyGrows m set s f a b → (f → g) → (g → f) → OnlyGrows m set s g a b
grows_as grows to from = record { keeps = keeps_as grows.keeps to from; grown = grows.grown }
