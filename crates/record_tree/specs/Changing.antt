-- What calls make of a side, and what they leave.
use Rattle.std.specs.Prelude.{◌≡◌, ◌≢◌, ℕ, ◌+◌, ◌≤◌, ◌<◌, ◌==◌, true, if◌then◌else◌, List, [], drop, length, Option, None, Some, unwrap_or}
use Rattle.hal_base.specs.declared.pages.SetId.{SetId}
use Rattle.hal_base.specs.declared.place.Ilk.{Ilk}
use Rattle.hal_base.specs.ShelfCalls.{ShelfView, Keeps}
use Rattle.hal_schema.specs.declared.schema.Schema.{Schema}
use Rattle.hal_schema.specs.Forest.{all_pairs, names_apart, twins_rise}
use Rattle.hal_schema.specs.Insertion.{inserted}
use Rattle.segment_blocks.specs.declared.tile.Cell.{Cell}
use Rattle.segment_blocks.specs.declared.tile.Tile.{Tile}
use Rattle.free_space.specs.Map.{Alters}
use Rattle.free_space.specs.Placing.{Places, Appends}
use Rattle.free_space.specs.Side.{lettered, place_at, place_of}
use Rattle.free_space.specs.SideCalls.{IsTold, IsSaidOf, added_for, set_of}
use Rattle.free_space.specs.SideLaws.{IsApart}
use Rattle.record_walk.specs.Tree.{Occurrence, Chains}
use Rattle.record_walk.specs.Listing.{Placed, placed, list_in, rows_of}
use Rattle.record_walk.specs.Spans.{ComesIn, ComesBehind, replaced_at}
use Rattle.record_walk.specs.Changes.{leads_to, new_cell, set_content}
use Rattle.record_walk.specs.Pointers.{Pointer}
use Rattle.record_walk.specs.Side.{seen}
use Rattle.record_walk.specs.SideChanges.{SetsPointer, kinds_of}
use Rattle.record_tree.specs.declared.place.Place.{Place}
use Rattle.record_tree.specs.declared.records.Records.{Records}
use Rattle.record_tree.specs.Standing.{cells_seen, StaysRecords, Walks}
use Rattle.record_tree.specs.Placing.{name_of, pointer_from}

-- ---- what is left alone

-- the data set is none of the side's
pub record IsElsewhere (records : Records) (set : SetId) : Type 0 where
  pub letters : IsApart records.cells set
  pub roots : records.roots.set ≡ set → ⊥

-- A call that changes pages of the side alone, and adds so many at most in the first of the free blocks. Every other data set stays as it was.
pub record ChangesSide (most : ℕ) (records : Records) (steady failed : Type 0) (old new : ShelfView) : Type 0 where
  pub keeps : Keeps steady failed old new
  pub pages : (set : SetId) → IsElsewhere records set → new.pages set ≡ old.pages set
  pub places : (set : SetId) → IsElsewhere records set → new.places set ≡ old.places set
  pub untold : (set : SetId) → old.pages set ≡ None → new.pages set ≡ None
  pub count : ℕ
  pub few : count ≤ most
  pub enough : count ≤ length old.free
  pub free : new.free ≡ drop count old.free

-- the shelf takes pages of the side
pub record TakesSide (records : Records) (shelf : ShelfView) : Type 0 where
  pub letters : (place : ℕ) → place < 10 → shelf.takes (lettered records.first place) 1 ≡ true
  pub roots : shelf.takes records.roots.set 2 ≡ true

-- ---- a new row

-- The cell of a new segment came to an address at which none stood. This pointer leads to it, and it leads on as the pointer did; and each other
-- cell is as it was.
pub record CellComes (schema : Schema) (pointer : Pointer) (new : Occurrence) (old now : ℕ → Option Cell) : Type 0 where
  pub free : old new.home ≡ None
  pub stands : now new.home ≡ Some (new_cell new (kinds_of schema new) (leads_to pointer (seen schema.phdam old) []))
  pub others : SetsPointer pointer new.home old now (λ other. other ≢ new.home)

-- One row more with its home, and every other row keeps its own. Where names differ and twins stand in order, it was inserted at its place.
pub record RowComes (schema : Schema) (parent : Option Ilk) (new : Occurrence) (old now : List Placed) : Type 0 where
  pub comes : ComesIn schema.types new old now
  pub inserted : all_pairs names_apart (rows_of old) ≡ true → twins_rise schema (rows_of old) ≡ true
      → rows_of now ≡ inserted schema (rows_of old) (placed parent new).row

-- A dependent behind all its twins: directly behind the span of the last of them, whatever its key, and where it is inserted if it has none. A root
-- is inserted.
abbrev pub RowComesLast : Schema → (parent prior : Option ℕ) → Occurrence → List Placed → List Placed → Type 0
RowComesLast schema (Some above) (Some prior) new old now = ComesBehind schema.types prior new old now
RowComesLast schema parent None new old now = RowComes schema (name_of old parent) new old now
RowComesLast schema None (Some prior) new old now = RowComes schema None new old now

-- the segment of a new row, which has this name, or else that of its home: with the partition and the generation of its side
abbrev pub home_name : Records → ℕ → Ilk
home_name records at = record { addr = at; part = records.first.part; number = records.first.number }

abbrev pub at_home : Records → Option Ilk → Occurrence → ℕ → Occurrence
at_home records name new at = record new { home = at; name = unwrap_or name (home_name records at) }

-- the trees of the side have become others, and so has its list
pub record ListBecomes (records : Records) (shelf : ShelfView) (old : Chains) (Leads : List Placed → List Placed → Type 0) : Type 0 where
  pub trees : Chains
  pub walks : Walks records shelf trees
  pub leads : Leads (list_in None old) (list_in None trees)

-- a row came, to which this pointer leads, and the list leads on so
pub record RowIsIn (before now : Records) (pointer : Pointer) (new : Occurrence) (old later : ShelfView) (Leads : List Placed → List Placed → Type 0) : Type 0 where
  pub stays : StaysRecords before now later
  pub list : (trees : Chains) → Walks before old trees → ListBecomes now later trees Leads
  pub cells : IsTold before.cells old → CellComes before.schema pointer new (cells_seen before old) (cells_seen now later)

-- a cell of the row, whatever its name and its pointers
pub record IsCellOf (schema : Schema) (new : Occurrence) (cell : Cell) : Type 0 where
  pub code : cell.code ≡ new.code
  pub content : cell.content ≡ new.content
  pub kinds : length cell.children ≡ kinds_of schema new

-- By this rule the cell got its room in the data set of its type's letter, which has got so many pages as the rule says: `Places`, the lowest hole that
-- fits, or `Appends`, behind all others as FRSPC has it. Of the tiles are told those before, and with the cell among them.
pub record GetsRoom (Rule : SetId → Cell → (count at : ℕ) → List (List Tile) → List (List Tile) → Type 0) (records : Records) (cell : Cell) (old later : ShelfView) (at : ℕ) : Type 0 where
  pub letter : IsTold records.cells old → place_at at ≡ place_of records.cells.letters cell.code
  pub tiles : IsSaidOf records.cells cell old
      (λ layout. (filled : List (List Tile)) × Rule (set_of records.cells cell) cell (added_for records.cells cell old later) at layout filled)

-- so of a new row, before a pointer led to its cell
pub record RowGetsRoom (Rule : SetId → Cell → (count at : ℕ) → List (List Tile) → List (List Tile) → Type 0) (records : Records) (new : Occurrence) (old later : ShelfView) (at : ℕ) : Type 0 where
  pub cell : Cell
  pub is : IsCellOf records.schema new cell
  pub room : GetsRoom Rule records cell old later at

-- a row that was inserted at its place, named by its home; its cell has the lowest hole
pub record Inserts (before now : Records) (place : Place) (new : Occurrence) (old later : ShelfView) (name : Ilk) : Type 0 where
  pub name_is : name ≡ home_name before name.addr
  pub room : RowGetsRoom Places before new old later name.addr
  pub row : RowIsIn before now (pointer_from before.schema new.code place.parent place.prior) (at_home before None new name.addr) old later
      (λ list changed. RowComes before.schema (name_of list place.parent) (at_home before None new name.addr) list changed)

-- its address is above all others of its data set
abbrev pub IsAboveAll : Records → ShelfView → ℕ → Type 0
IsAboveAll records shelf at =
    IsTold records.cells shelf → (other : ℕ) (cell : Cell) → cells_seen records shelf other ≡ Some cell → place_at other ≡ place_at at → other < at

-- a row that came behind all its twins, with this name or else that of its home, and whose cell came behind all others of its data set, by FRSPC
pub record ComesLast (fbff fspf : ℕ) (before now : Records) (place : Place) (name : Option Ilk) (new : Occurrence) (old later : ShelfView) (at : ℕ) : Type 0 where
  pub above : IsAboveAll before old at
  pub room : RowGetsRoom (λ set cell. Appends set cell fbff fspf) before new old later at
  pub row : RowIsIn before now (pointer_from before.schema new.code place.parent place.prior) (at_home before name new at) old later
      (RowComesLast before.schema place.parent place.prior (at_home before name new at))

pub record LoadsRow (fbff fspf : ℕ) (before now : Records) (place : Place) (new : Occurrence) (old later : ShelfView) (name : Ilk) : Type 0 where
  pub name_is : name ≡ home_name before name.addr
  pub row : ComesLast fbff fspf before now place None new old later name.addr

-- How many free blocks a new row may need: one for its cell, two where of so many pages one is left empty, and one more for the row of a root.
abbrev pub root_need : ℕ → ℕ
root_need code = if code == 1 then 1 else 0

abbrev pub insertion_need : ℕ → ℕ
insertion_need code = 1 + root_need code

abbrev pub loading_need : (fbff code : ℕ) → ℕ
loading_need fbff code = (if fbff == 0 then 1 else 2) + root_need code

-- ---- another content

-- the content of the row at a home is another, and nothing else of the side
pub record Replaces (records : Records) (at : ℕ) (content : List ℕ) (old later : ShelfView) : Type 0 where
  pub list : (trees : Chains) → Walks records old trees → ListBecomes records later trees (λ list changed. changed ≡ replaced_at list at content)
  pub cells : IsTold records.cells old → Alters at (set_content content) (cells_seen records old) (cells_seen records later)
