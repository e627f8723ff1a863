-- Words of the private functions: a cell that is stored for a new row, before a pointer leads to it.
use Rattle.std.specs.Prelude.{◌≡◌, ◌≢◌, ◌==◌, ℕ, ◌<◌, if◌then◌else◌, ◌+◌, List, length, Option, None, Some, unwrap_or, ⊤}
use Rattle.hal_base.specs.declared.pages.SetId.{SetId}
use Rattle.hal_base.specs.declared.place.Ilk.{Ilk}
use Rattle.hal_base.specs.ShelfCalls.{ShelfView}
use Rattle.hal_schema.specs.declared.schema.Schema.{Schema}
use Rattle.segment_blocks.specs.declared.tile.Cell.{Cell}
use Rattle.segment_blocks.specs.declared.tile.Tile.{Tile}
use Rattle.free_space.specs.Map.{Adds}
use Rattle.free_space.specs.Placing.{Places, Appends}
use Rattle.free_space.specs.SideCalls.{StaysOpenOn, IsTold, Turns}
use Rattle.keyed_sets.specs.Calls.{IsOpened}
use Rattle.record_walk.specs.Tree.{Occurrence, Chains}
use Rattle.record_walk.specs.Pointers.{Root, with_segment}
use Rattle.record_walk.specs.Changes.{new_cell}
use Rattle.record_walk.specs.Orders.{child_place}
use Rattle.record_walk.specs.SideChanges.{kinds_of}
use Rattle.record_tree.specs.declared.place.Place.{Place}
use Rattle.record_tree.specs.declared.records.Records.{Records}
use Rattle.record_tree.specs.declared.new_row.NewRow.{NewRow}
use Rattle.record_tree.specs.declared.room.Room.{Room}
use Rattle.record_tree.specs.declared.room.Room.TheVariants.{Lowest, Past}
use Rattle.record_tree.specs.Standing.{cells_seen, rows_seen, HoldsRow, StaysRecords, Walks}
use Rattle.record_tree.specs.Placing.{HasPointer, IsNewRoot, unplaced, pointer_at, led_to}
use Rattle.record_tree.specs.Changing.{CellComes, RowComes, RowIsIn, at_home, root_need, IsAboveAll, IsCellOf, GetsRoom}

-- how many pages the room for a cell may take
abbrev pub room_need : Room → ℕ
room_need Lowest = 1
room_need (Past fbff fspf) = if fbff == 0 then 1 else 2

-- each page isn't left empty
abbrev pub IsStep : Room → Type 0
IsStep Lowest = ⊤
IsStep (Past fbff fspf) = fbff ≢ 1

-- past all cells, where that was wanted
abbrev pub IsPast : Room → Records → ShelfView → ℕ → Type 0
IsPast Lowest records shelf at = ⊤
IsPast (Past fbff fspf) records shelf at = IsAboveAll records shelf at

-- by which rule a cell gets its room
abbrev pub rule_of : Room → SetId → Cell → (count at : ℕ) → List (List Tile) → List (List Tile) → Type 0
rule_of Lowest = Places
rule_of (Past fbff fspf) = λ set cell. Appends set cell fbff fspf

-- it has the room that was wanted
pub record HasRoom (room : Room) (records : Records) (cell : Cell) (old later : ShelfView) (at : ℕ) : Type 0 where
  pub past : IsPast room records old at
  pub gets : GetsRoom (rule_of room) records cell old later at

-- and so of a new row
pub record RowHasRoom (room : Room) (records : Records) (new : Occurrence) (old later : ShelfView) (at : ℕ) : Type 0 where
  pub cell : Cell
  pub is : IsCellOf records.schema new cell
  pub room_is : HasRoom room records cell old later at

-- the cell came to an address; all else of the side is as it was
pub record StoresCell (before now : Records) (cell : Cell) (old later : ShelfView) (at : ℕ) : Type 0 where
  pub schema : now.schema ≡ before.schema
  pub place : now.place ≡ before.place
  pub first : now.first ≡ before.first
  pub roots : now.roots ≡ before.roots
  pub cells : StaysOpenOn before.cells now.cells later
  pub opened : IsOpened now.roots later
  pub rows : rows_seen now later ≡ rows_seen before old
  pub adds : Turns before.cells now.cells old later (Adds at cell)
  pub back : IsTold now.cells later → IsTold before.cells old

-- a new row as a segment without a home
abbrev pub segment_for : NewRow → Occurrence
segment_for new = unplaced new.code new.content

abbrev pub nameless : Ilk
nameless = record { addr = 0; part = 0; number = 0 }

abbrev pub set_name : Ilk → Cell → Cell
set_name name cell = record cell { name = name }

-- the cell of a segment without children
abbrev pub row_cell : Schema → Occurrence → ℕ → Cell
row_cell schema new twin = new_cell new (kinds_of schema new) twin

-- and that of a new row at its home
abbrev pub named_cell : Records → NewRow → (twin at : ℕ) → Cell
named_cell records new twin at = row_cell records.schema (at_home records new.name (segment_for new) at) twin

-- ---- the pointer to a new dependent

-- the home of the cell in which it stands; a parent's cell has a pointer for each child type
abbrev pub pointer_home : ℕ → Option ℕ → ℕ
pointer_home above prior = unwrap_or prior above

abbrev pub HasChildPlace : Schema → Option ℕ → ℕ → Cell → Type 0
HasChildPlace schema prior code cell = prior ≡ None → child_place schema.types code < length cell.children

-- where it leads, and that its cell has it
pub record ReadsPointer (records : Records) (shelf : ShelfView) (above : ℕ) (prior : Option ℕ) (code to : ℕ) : Type 0 where
  pub is : IsTold records.cells shelf → to ≡ led_to records shelf above prior code
  pub place : HoldsRow records shelf (pointer_home above prior) (HasChildPlace records.schema prior code)

-- the trees with a new dependent
abbrev pub joined_trees : Records → (above : ℕ) (prior : Option ℕ) (new : NewRow) (at : ℕ) → Chains → Chains
joined_trees records above prior new at trees =
    with_segment (pointer_at records.schema above new.code prior) (at_home records new.name (segment_for new) at) (kinds_of records.schema (segment_for new)) trees

-- the pointer leads to a new dependent, which leads on to where the pointer led
pub record Joins (before now : Records) (above : ℕ) (prior : Option ℕ) (new : NewRow) (old later : ShelfView) (at : ℕ) : Type 0 where
  pub stays : StaysRecords before now later
  pub place : HoldsRow before old (pointer_home above prior) (HasChildPlace before.schema prior new.code)
  pub trees : (trees : Chains) → Walks before old trees → Walks now later (joined_trees before above prior new at trees)
  pub cells : IsTold before.cells old
      → CellComes before.schema (pointer_at before.schema above new.code prior) (at_home before new.name (segment_for new) at) (cells_seen before old) (cells_seen now later)

-- a new root came
abbrev pub ComesAsRoot : Records → Records → NewRow → ShelfView → ShelfView → ℕ → Type 0
ComesAsRoot before now new old later at =
    RowIsIn before now (Root 0) (at_home before new.name (segment_for new) at) old later (RowComes before.schema None (at_home before new.name (segment_for new) at))

-- how many free blocks it may need
abbrev pub row_need : NewRow → ℕ
row_need new = room_need new.room + root_need new.code

-- the place of a new row, whatever twins must stand before it
pub record HasPlace (records : Records) (shelf : ShelfView) (place : Place) (new : NewRow) : Type 0 where
  pub below : (above : ℕ) → place.parent ≡ Some above → HasPointer records shelf above place.prior new.code
  pub root : place.parent ≡ None → IsNewRoot records shelf (segment_for new)

-- it came there
pub record ComesAt (before now : Records) (place : Place) (new : NewRow) (old later : ShelfView) (at : ℕ) : Type 0 where
  pub below : (above : ℕ) → place.parent ≡ Some above → Joins before now above place.prior new old later at
  pub root : place.parent ≡ None → ComesAsRoot before now new old later at
