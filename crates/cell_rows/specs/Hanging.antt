-- A new segment in the cells of a side: a cell came, then it got its name, which is its home, and then the pointer in which it
-- hangs was set to it. This is what calls on a side say of its map, beside what the walk says of trees.
use Rattle.std.specs.Prelude.{◌≡◌, ℕ, ◌<◌, ◌≤◌, List, Option, Some}
use Rattle.segment_blocks.specs.declared.tile.Cell.{Cell}
use Rattle.free_space.specs.Map.{Adds, Alters}
use Rattle.record_walk.specs.Tree.{Occurrence, Chains, times_in}
use Rattle.record_walk.specs.Pointers.{Pointer, with_segment}
use Rattle.record_walk.specs.Changes.{stands_in, leads_to, set_in_cell, set_in_rows, new_cell, HangFrom}

abbrev pub PlacedSegmentsHang : Type 0
PlacedSegmentsHang = (cells mid named now : ℕ → Option Cell) (firsts : List ℕ) (trees : Chains) (pointer : Pointer) (home : ℕ) (new : Occurrence) (kinds : ℕ) (nameless : Cell)
    → HangFrom cells firsts trees → ((other : ℕ) → times_in other trees ≤ 1) → stands_in pointer ≡ Some home → 0 < times_in home trees → 0 < new.home
    → record nameless { name = new.name } ≡ new_cell new kinds (leads_to pointer cells firsts)
    → Adds new.home nameless cells mid → Alters new.home (λ cell. record cell { name = new.name }) mid named → Alters home (set_in_cell pointer new.home) named now
    → HangFrom now (set_in_rows pointer new.home firsts) (with_segment pointer new kinds trees)
