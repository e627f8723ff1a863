-- What is said of trees when cells change.
use Rattle.std.specs.Prelude.{◌≡◌, ◌≢◌, ℕ, ◌<◌, ◌≤◌, false, List, replicate, slice_index, slice_set, Option, None, Some}
use Rattle.std.specs.Option.{option_map, option_map_or}
use Rattle.segment_blocks.specs.declared.tile.Cell.{Cell}
use Rattle.record_walk.specs.Tree.{Occurrence, Twins, Chains, first_of, firsts_of, Hangs, HangIn, times_in}
use Rattle.record_walk.specs.Pointers.{Pointer, Behind, Below, Root, with_segment, without_segment, with_content_at}

-- a pointer has one tree at most that hangs from it
pub record Unique : Type 0 where
  pub twins : (cells : ℕ → Option Cell) (one other : Twins) → Hangs cells one → Hangs cells other → first_of one ≡ first_of other → one ≡ other
  pub chains : (cells : ℕ → Option Cell) (one other : Chains) → HangIn cells one → HangIn cells other → firsts_of one ≡ firsts_of other → one ≡ other

-- at each home that is met stands a cell that isn't copied
abbrev pub MetCellsStand : Type 0
MetCellsStand = (cells : ℕ → Option Cell) (trees : Chains) (home : ℕ) → HangIn cells trees → 0 < times_in home trees
    → (cell : Cell) × (cells home ≡ Some cell) × (cell.copied ≡ false)

-- changes of other cells leave the trees
abbrev pub ChangesOutsideLeave : Type 0
ChangesOutsideLeave = (cells now : ℕ → Option Cell) (trees : Chains) → HangIn cells trees → ((home : ℕ) → 0 < times_in home trees → now home ≡ cells home)
    → HangIn now trees

-- the home of the cell in which a pointer stands, none for a row of the root set
abbrev pub stands_in : Pointer → Option ℕ
stands_in (Behind prior) = Some prior
stands_in (Below above place) = Some above
stands_in (Root place) = None

-- where a pointer leads, by the cell or by the rows of the root set
abbrev pub leads_to : Pointer → (ℕ → Option Cell) → List ℕ → ℕ
leads_to (Behind prior) cells firsts = option_map_or (λ cell. cell.twin) (cells prior) 0
leads_to (Below above place) cells firsts = option_map_or (λ cell. slice_index cell.children place) (cells above) 0
leads_to (Root place) cells firsts = slice_index firsts place

-- the cell and the rows of the root set with the pointer set
abbrev pub set_in_cell : Pointer → ℕ → Cell → Cell
set_in_cell (Behind prior) to cell = record cell { twin = to }
set_in_cell (Below above place) to cell = record cell { children = slice_set cell.children place to }
set_in_cell (Root place) to cell = cell

abbrev pub set_in_rows : Pointer → ℕ → List ℕ → List ℕ
set_in_rows (Behind prior) to firsts = firsts
set_in_rows (Below above place) to firsts = firsts
set_in_rows (Root place) to firsts = slice_set firsts place to

-- the pointer was set in its cell, and each other cell that is met in the result stays
pub record IsSet (pointer : Pointer) (to : ℕ) (cells now : ℕ → Option Cell) (result : Chains) : Type 0 where
  pub set : (home : ℕ) → stands_in pointer ≡ Some home → now home ≡ option_map (set_in_cell pointer to) (cells home)
  pub others : (home : ℕ) (cell : Cell) → cells home ≡ Some cell → 0 < times_in home result → stands_in pointer ≢ Some home → now home ≡ cells home

-- the cell of a new segment, whose twin is what the pointer led to before, and which has no children
abbrev pub new_cell : Occurrence → ℕ → ℕ → Cell
new_cell new kinds twin = record { copied = false; code = new.code; name = new.name; twin = twin; children = replicate kinds 0; content = new.content }

-- these trees hang, from these rows of the root set
pub record HangFrom (cells : ℕ → Option Cell) (firsts : List ℕ) (trees : Chains) : Type 0 where
  pub hang : HangIn cells trees
  pub first : firsts_of trees ≡ firsts

-- A cell came to a free home, with the pointer's old value as its twin, and then the pointer was set to it: behind a twin, as first child, or at the head of a root row.
abbrev pub NewSegmentsHang : Type 0
NewSegmentsHang = (cells now : ℕ → Option Cell) (firsts : List ℕ) (trees : Chains) (pointer : Pointer) (new : Occurrence) (kinds : ℕ)
    → HangFrom cells firsts trees → ((home : ℕ) → times_in home trees ≤ 1) → 0 < new.home → cells new.home ≡ None
    → now new.home ≡ Some (new_cell new kinds (leads_to pointer cells firsts)) → IsSet pointer new.home cells now (with_segment pointer new kinds trees)
    → HangFrom now (set_in_rows pointer new.home firsts) (with_segment pointer new kinds trees)

-- A pointer was set past the segment to which it led: to that segment's twin. Whatever became of the cells that were cut out, the others hang.
abbrev pub CutsHang : Type 0
CutsHang = (cells now : ℕ → Option Cell) (firsts : List ℕ) (trees : Chains) (pointer : Pointer) (cut : Cell)
    → HangFrom cells firsts trees → ((home : ℕ) → times_in home trees ≤ 1) → 0 < leads_to pointer cells firsts → cells (leads_to pointer cells firsts) ≡ Some cut
    → IsSet pointer cut.twin cells now (without_segment pointer trees)
    → HangFrom now (set_in_rows pointer cut.twin firsts) (without_segment pointer trees)

-- a cell with another content
abbrev pub set_content : List ℕ → Cell → Cell
set_content content cell = record cell { content = content }

-- the content of one cell was replaced, and every other cell stays
abbrev pub ReplacedContentHangs : Type 0
ReplacedContentHangs = (cells now : ℕ → Option Cell) (firsts : List ℕ) (trees : Chains) (home : ℕ) (content : List ℕ)
    → HangFrom cells firsts trees → ((other : ℕ) → times_in other trees ≤ 1)
    → now home ≡ option_map (set_content content) (cells home) → ((other : ℕ) → other ≢ home → now other ≡ cells other)
    → HangFrom now firsts (with_content_at home content trees)
