-- What calls of a set leave together, where the first of them only reads.
use Rattle.std.proofs.Common.{ℕ, inl, inr, subst}
use Rattle.std.specs.Prelude.{IfSome}
use Rattle.hal_base.specs.ShelfCalls.{ShelfView, OnlyReads}
use Rattle.hal_base.proofs.ShelfLemmas.{reads_as, reads_changes, changes_as, changes_then, changes_grows, grows_as}
use Rattle.keyed_sets.specs.declared.set.KeyedSet.{KeyedSet}
use Rattle.keyed_sets.specs.Calls.{Writes, Grows}
use Rattle.keyed_sets.proofs.Heads.{Kept, heads_unchanged}

-- the same fault by another name
pub grown_as : {s f g : Type 0} (id : KeyedSet) {a b : ShelfView} → Grows id s f a b → (f → g) → (g → f) → Grows id s g a b
grown_as id grows to from = record { changes = elim grows.changes [ inl none ↦ inl (grows_as none to from) | inr one ↦ inr (grows_as one to from) ]; heads = grows.heads }

pub read_leaves : {m : ℕ} {s f g : Type 0} (id : KeyedSet) {a b : ShelfView} → OnlyReads m s f a b → (f → g) → (g → f) → Writes id s g a b
read_leaves id {a} {b} reads to from = record { changes = reads_changes id.set (reads_as reads to from); heads = heads_unchanged id.set a b (reads.same.pages id.set) }

pub writes_grow : {s f : Type 0} (id : KeyedSet) {a b : ShelfView} → Writes id s f a b → Grows id s f a b
writes_grow id writes = record { changes = inl (changes_grows writes.changes); heads = writes.heads }

pub read_writes : {m : ℕ} {s t u f g h : Type 0} (id : KeyedSet) {a b c : ShelfView} → OnlyReads m s f a b → Writes id t g b c → (g → h) → (h → g) → (s → t → u) → Writes id u h a c
read_writes id {a} {b} {c} reads writes to from then = record {
  changes = changes_then (reads_changes id.set reads) (changes_as writes.changes to from) then;
  heads = subst (λ o. IfSome o (λ pages. IfSome (c.pages id.set) (Kept id.set pages))) (reads.same.pages id.set) writes.heads;
}
