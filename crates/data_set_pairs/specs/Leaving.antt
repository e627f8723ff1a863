-- A table of pages without the data sets that states leave behind, whose blocks are free.
use Rattle.std.specs.Prelude.{◌≡◌, ℕ, ◌+◌, ◌≤◌, ◌==◌, Bool, false, ◌&&◌, ◌||◌, not, if◌then◌else◌, IsTrue, List, [], length, reverse, filter}
use Rattle.std.specs.List.{list_any}
use Rattle.std.specs.List.Sorted.{IsStrictlyIncreasing}
use Rattle.hal_base.specs.ShelfCalls.{ShelfView}
use Rattle.hal_base.specs.declared.pages.SetId.{SetId}
use Rattle.hal_base.specs.declared.place.PartState.{PartState}
use Rattle.volume_image.specs.Header.{is_left}
use Rattle.data_set_pairs.specs.declared.place.PagePlace.{PagePlace}
use Rattle.data_set_pairs.specs.declared.table.Table.{Table}

-- the pages that stay are those of the other data sets, and the free blocks, each once, are those that were free and those
-- of the pages that go
pub record LeavesOut (states : List PartState) (pages : List PagePlace) (free : List ℕ) (more : List PagePlace) (left : List ℕ) : Type 0 where
  pub kept : more ≡ filter (λ p. not (is_left states p.set)) pages
  pub rise : IsStrictlyIncreasing left
  pub same : (test : ℕ → Bool) → list_any test left ≡ (list_any test free || list_any (λ p. is_left states p.set && test p.block) pages)
  pub few : length more + length left ≤ length pages + length free

-- the same of two tables
abbrev pub TakesOut : List PartState → Table → Table → Type 0
TakesOut states old new = LeavesOut states old.pages.items (reverse old.free.items) new.pages.items (reverse new.free.items)

-- what is seen of a shelf whose states leave data sets behind: these have no pages, all others have those that they had, and
-- a block is free that was free or stood in a page of one of these
pub record LeavesBehind (states : List PartState) (old new : ShelfView) : Type 0 where
  pub places : (set : SetId) → new.places set ≡ (if is_left states set then [] else old.places set)
  pub pages : (set : SetId) → IsTrue (not (is_left states set)) → new.pages set ≡ old.pages set
  pub free : (block : ℕ) → IsTrue (list_any (λ n. n == block) old.free) → IsTrue (list_any (λ n. n == block) new.free)
  pub freed : (set : SetId) (block : ℕ) → IsTrue (is_left states set) → IsTrue (list_any (λ n. n == block) (old.places set)) → IsTrue (list_any (λ n. n == block) new.free)
  pub only : (block : ℕ) → IsTrue (list_any (λ n. n == block) new.free) → list_any (λ n. n == block) old.free ≡ false
      → (set : SetId) × IsTrue (is_left states set) × IsTrue (list_any (λ n. n == block) (old.places set))
