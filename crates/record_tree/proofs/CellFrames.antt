-- What calls on the cells of a side leave of the rest, one behind the other.
use Rattle.std.proofs.Common.{◌≡◌, ℕ, ◌≤◌, List, drop, Option, None, Some, refl, sym, ap, subst, ◌∙◌, arith}
use Rattle.std.specs.Prelude.{IsSome}
use Rattle.hal_base.specs.declared.pages.SetId.{SetId}
use Rattle.hal_base.specs.ShelfCalls.{ShelfView, SameShelf, OnlyReads}
use Rattle.hal_base.proofs.ShelfLemmas.{keeps_then, keeps_as}
use Rattle.segment_blocks.specs.declared.tile.Cell.{Cell}
use Rattle.free_space.specs.declared.side.SideCells.{SideCells}
use Rattle.free_space.specs.Side.{lettered, place_at}
use Rattle.free_space.specs.SideCalls.{Holds, IsTold, OnlyChangesAt, cells_of, set_at}
use Rattle.free_space.specs.SideLaws.{IsApart}
use Rattle.keyed_sets.specs.declared.set.KeyedSet.{KeyedSet}
use Rattle.keyed_sets.specs.Calls.{Writes}
use Rattle.record_tree.specs.declared.records.Records.{Records}
use Rattle.record_tree.specs.Changing.{ChangesSide, IsElsewhere}
use Rattle.record_tree.specs.Descending.{ChangesCells}
use Rattle.record_tree.proofs.Frames.{within_ten, untold_all}
use Rattle.record_tree.proofs.RootRows.{Alike}
use Rattle.record_tree.proofs.Staying.{cells_same}

-- ---- what is seen of the same pages

pub told_same : (cells : SideCells) (old new : ShelfView) → SameShelf old new → IsTold cells old → IsTold cells new
told_same cells old new same told = subst (λ (o : Option (List (List ℕ))). IsSome o) (sym (same.pages cells.first)) told

pub told_before : (cells : SideCells) (old new : ShelfView) → SameShelf old new → IsTold cells new → IsTold cells old
told_before cells old new same told = subst (λ (o : Option (List (List ℕ))). IsSome o) (same.pages cells.first) told

pub cells_as : (cells : SideCells) (old new : ShelfView) → SameShelf old new → cells_of cells new ≡ cells_of cells old
cells_as cells old new same = cells_same cells.first cells.shapes old new same.pages

-- ---- calls on the cells

pub reads_of : {m : ℕ} {s f : Type 0} (cells : SideCells) {old new : ShelfView} → OnlyReads m s f old new → ChangesCells cells s f old new
reads_of cells reads = record { keeps = reads.keeps; pages = λ set apart. reads.same.pages set; places = reads.same.places; untold = λ set none. reads.same.pages set ∙ none; free = reads.same.free }

pub changes_at : {s f : Type 0} (cells : SideCells) (old new : ShelfView) (at : ℕ) (P : Cell → Type 0) → Alike old → Alike new → Holds cells old at P → OnlyChangesAt cells at s f old new → ChangesCells cells s f old new
changes_at cells old new at P before after holds leaves = record {
  keeps = leaves.keeps;
  pages = λ set apart. by set apart (old.pages cells.first) refl;
  places = leaves.changed.places;
  untold = λ set none. untold_all old new (set_at cells at) before after leaves.changed.untold set none set;
  free = leaves.changed.free;
}
  where
    by : (set : SetId) → IsApart cells set → (o : Option (List (List ℕ))) → old.pages cells.first ≡ o → new.pages set ≡ old.pages set
    by set apart None is = untold_all old new (set_at cells at) before after leaves.changed.untold cells.first is set ∙ sym (before cells.first set is)
    by set apart (Some pages) is =
        let (cell, there, own) = holds (subst (λ (p : Option (List (List ℕ))). IsSome p) (sym is) refl) in
        leaves.changed.others set (λ e. apart (place_at at) (within_ten cells.first cells.shapes old at cell there) (sym e))

apart_as : (cells now : SideCells) (set : SetId) → now.first ≡ cells.first → IsApart cells set → IsApart now set
apart_as cells now set same apart = λ place lt e. apart place lt (ap (λ (f : SetId). lettered f place) (sym same) ∙ e)

pub cells_then : {s t u f g : Type 0} (cells now : SideCells) {a b c : ShelfView} → now.first ≡ cells.first → ChangesCells cells s f a b → ChangesCells now t g b c → (s → t → u) → ChangesCells cells u g a c
cells_then cells now same first second then = record {
  keeps = keeps_then first.keeps second.keeps then;
  pages = λ set apart. second.pages set (apart_as cells now set same apart) ∙ first.pages set apart;
  places = λ set. second.places set ∙ first.places set;
  untold = λ set none. second.untold set (first.untold set none);
  free = second.free ∙ first.free;
}

pub cells_fail : {s f g : Type 0} (cells : SideCells) {a b : ShelfView} → ChangesCells cells s f a b → (f → g) → (g → f) → ChangesCells cells s g a b
cells_fail cells changes to from = record { keeps = keeps_as changes.keeps to from; pages = changes.pages; places = changes.places; untold = changes.untold; free = changes.free }

-- what was told before; what isn't told stays so
pub told_first : {s f : Type 0} (cells : SideCells) (old new : ShelfView) → ChangesCells cells s f old new → (set : SetId) → IsSome (new.pages set) → IsSome (old.pages set)
told_first cells old new changes set told = by (old.pages set) refl
  where
    by : (o : Option (List (List ℕ))) → old.pages set ≡ o → IsSome o
    by None is = subst (λ (p : Option (List (List ℕ))). IsSome p) (changes.untold set is) told
    by (Some pages) is = refl

-- ---- calls on the side

pub side_cells : {s f : Type 0} (records : Records) {old new : ShelfView} → ChangesCells records.cells s f old new → ChangesSide 0 records s f old new
side_cells records changes = record {
  keeps = changes.keeps;
  pages = λ set apart. changes.pages set apart.letters;
  places = λ set apart. changes.places set;
  untold = changes.untold;
  count = 0;
  few = omega arith;
  enough = omega arith;
  free = changes.free;
}

pub side_reads : {m : ℕ} {s f : Type 0} (records : Records) {old new : ShelfView} → OnlyReads m s f old new → ChangesSide 0 records s f old new
side_reads records reads = side_cells records (reads_of records.cells reads)

pub side_rows : {s f : Type 0} (records : Records) (old new : ShelfView) → Alike old → Alike new → Writes records.roots s f old new → ChangesSide 0 records s f old new
side_rows records old new before after writes = record {
  keeps = writes.changes.keeps;
  pages = λ set apart. writes.changes.changed.others set (λ e. apart.roots (sym e));
  places = λ set apart. writes.changes.changed.places set;
  untold = λ set none. untold_all old new records.roots.set before after writes.changes.changed.untold set none set;
  count = 0;
  few = omega arith;
  enough = omega arith;
  free = writes.changes.changed.free;
}

elsewhere_as : (records now : Records) (set : SetId) → now.cells.first ≡ records.cells.first → now.roots.set ≡ records.roots.set → IsElsewhere records set → IsElsewhere now set
elsewhere_as records now set cells roots apart = record { letters = apart_as records.cells now.cells set cells apart.letters; roots = λ e. apart.roots (sym roots ∙ e) }

none_taken : (n : ℕ) (free : List ℕ) → n ≤ 0 → drop n free ≡ free
none_taken n free le = let z : n ≡ 0 = omega (arith, le) in ap (λ (k : ℕ). drop k free) z

pub side_then : {s t u f g : Type 0} (records now : Records) {a b c : ShelfView} → now.cells.first ≡ records.cells.first → now.roots.set ≡ records.roots.set → ChangesSide 0 records s f a b → ChangesSide 0 now t g b c → (s → t → u) → ChangesSide 0 records u g a c
side_then records now {a = a} {b = b} cells roots first second then = record {
  keeps = keeps_then first.keeps second.keeps then;
  pages = λ set apart. second.pages set (elsewhere_as records now set cells roots apart) ∙ first.pages set apart;
  places = λ set apart. second.places set (elsewhere_as records now set cells roots apart) ∙ first.places set apart;
  untold = λ set none. second.untold set (first.untold set none);
  count = 0;
  few = omega arith;
  enough = omega arith;
  free = second.free ∙ none_taken second.count b.free second.few ∙ first.free ∙ none_taken first.count a.free first.few;
}

pub side_fails : {s f g : Type 0} (records : Records) {a b : ShelfView} → ChangesSide 0 records s f a b → (f → g) → (g → f) → ChangesSide 0 records s g a b
side_fails records changes to from = record {
  keeps = keeps_as changes.keeps to from;
  pages = changes.pages;
  places = changes.places;
  untold = changes.untold;
  count = changes.count;
  few = changes.few;
  enough = changes.enough;
  free = changes.free;
}

-- a read of the root set, and then a change of it
pub side_writes : {m : ℕ} {s t u f g : Type 0} (records : Records) (roots : KeyedSet) (old mid new : ShelfView) → roots ≡ records.roots → Alike mid → Alike new → OnlyReads m s f old mid → Writes roots t g mid new → (s → t → u) → ChangesSide 0 records u g old new
side_writes records roots old mid new same between after reads writes both =
    let now : Records = record records { roots = roots } in side_then records now refl (ap (λ (r : KeyedSet). r.set) same) (side_reads records reads) (side_rows now mid new between after writes) both
