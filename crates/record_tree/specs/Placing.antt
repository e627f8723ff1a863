-- Where a new row stands, and what it must be.
use Rattle.std.specs.Prelude.{◌≡◌, ℕ, ◌==◌, true, List, [], length, Option, None, Some, option_and_then, find}
use Rattle.std.specs.Option.{option_map}
use Rattle.hal_base.specs.declared.place.Ilk.{Ilk}
use Rattle.hal_base.specs.ShelfCalls.{ShelfView}
use Rattle.hal_schema.specs.declared.row.Row.{Row}
use Rattle.hal_schema.specs.declared.schema.Schema.{Schema}
use Rattle.hal_schema.specs.SegType.{parent_code}
use Rattle.hal_schema.specs.Forest.{has_length}
use Rattle.hal_schema.specs.Insertion.{is_twin_before}
use Rattle.record_walk.specs.Tree.{Occurrence}
use Rattle.record_walk.specs.Listing.{Placed, placed}
use Rattle.record_walk.specs.ByKey.{home_where, is_root_where}
use Rattle.record_walk.specs.Leads.{stand_so}
use Rattle.record_walk.specs.Orders.{child_place}
use Rattle.record_walk.specs.Pointers.{Pointer, Behind, Below, Root}
use Rattle.record_walk.specs.Side.{key_of, seen}
use Rattle.record_walk.specs.Firsts.{NextStaysBehind}
use Rattle.record_walk.specs.Changes.{leads_to, set_content}
use Rattle.record_walk.specs.SideChanges.{segment_in}
use Rattle.segment_blocks.specs.declared.tile.Cell.{Cell}
use Rattle.record_tree.specs.declared.place.Place.{Place}
use Rattle.record_tree.specs.declared.records.Records.{Records}
use Rattle.record_tree.specs.Standing.{cells_seen, OfList, HoldsRow}
use Rattle.record_tree.specs.Finding.{is_key, BelongsTo}

-- a segment that has no home yet, and so no name
abbrev pub unplaced : (code : ℕ) → List ℕ → Occurrence
unplaced code content = record { home = 0; code = code; name = record { addr = 0; part = 0; number = 0 }; content = content }

-- as a row below another
abbrev pub child_of : Row → Occurrence → Row
child_of above new = (placed (Some above.name) new).row

-- the name of the row at the home of a parent
abbrev pub name_of : List Placed → Option ℕ → Option Ilk
name_of list parent = option_and_then (λ at. option_map (λ (p : Placed). p.row.name) (find (λ (p : Placed). p.home == at) list)) parent

-- the pointer that leads, or will lead, to a dependent of a code: that of the twin before it, or of its parent
abbrev pub pointer_at : Schema → (above code : ℕ) → Option ℕ → Pointer
pointer_at schema above code None = Below above (child_place schema.types code)
pointer_at schema above code (Some prior) = Behind prior

-- so of a row at a place; that to a root stands in no cell
abbrev pub pointer_from : Schema → (code : ℕ) → (parent prior : Option ℕ) → Pointer
pointer_from schema code None prior = Root 0
pointer_from schema code (Some above) None = Below above (child_place schema.types code)
pointer_from schema code (Some above) (Some prior) = Behind prior

-- The place of a new dependent: its parent is of the parent type, the twin before it, if there is one, is one that must stand before it, and the next
-- twin isn't. Twins stand in order, so this one twin is the last of those that must stand before it, and no other has to be looked at.
pub record IsPlaceBelow (records : Records) (shelf : ShelfView) (above : ℕ) (prior : Option ℕ) (new : Occurrence) : Type 0 where
  pub parent : HoldsRow records shelf above (λ cell. parent_code records.schema.types new.code ≡ Some cell.code)
  pub twin : (at : ℕ) → prior ≡ Some at → HoldsRow records shelf at (λ cell. cell.code ≡ new.code)
  pub before : (at : ℕ) → prior ≡ Some at → OfList records shelf (λ list. stand_so (λ up row. is_twin_before records.schema (child_of up new) row) above at list ≡ true)
  pub next : NextStaysBehind records.schema (pointer_at records.schema above new.code prior) (seen records.schema.phdam (cells_seen records shelf)) [] new

-- The pointer that will lead to a new dependent stands in a cell of the parent type, or of its own.
pub record HasPointer (records : Records) (shelf : ShelfView) (above : ℕ) (prior : Option ℕ) (code : ℕ) : Type 0 where
  pub parent : HoldsRow records shelf above (λ cell. parent_code records.schema.types code ≡ Some cell.code)
  pub twin : (at : ℕ) → prior ≡ Some at → HoldsRow records shelf at (λ cell. cell.code ≡ code)

-- where it leads before
abbrev pub led_to : Records → ShelfView → (above : ℕ) (prior : Option ℕ) (code : ℕ) → ℕ
led_to records shelf above prior code = leads_to (pointer_at records.schema above code prior) (seen records.schema.phdam (cells_seen records shelf)) []

-- a new root: its key belongs to the partition, and no root of the side has it
pub record IsNewRoot (records : Records) (shelf : ShelfView) (new : Occurrence) : Type 0 where
  pub code : new.code ≡ 1
  pub belongs : BelongsTo records.schema records.place (key_of records.schema new)
  pub free : OfList records shelf (λ list. home_where (is_root_where records.schema (is_key (key_of records.schema new))) list ≡ None)

-- The place is that of a new row: below its parent, or of a root. A root's prior twin isn't looked at.
pub record IsPlace (records : Records) (shelf : ShelfView) (place : Place) (new : Occurrence) : Type 0 where
  pub below : (above : ℕ) → place.parent ≡ Some above → IsPlaceBelow records shelf above place.prior new
  pub root : place.parent ≡ None → IsNewRoot records shelf new

-- The place behind all twins: the twin before it, if there is one, is the last of them.
pub record IsPlaceLast (records : Records) (shelf : ShelfView) (place : Place) (new : Occurrence) : Type 0 where
  pub below : (above : ℕ) → place.parent ≡ Some above → HasPointer records shelf above place.prior new.code × (led_to records shelf above place.prior new.code ≡ 0)
  pub root : place.parent ≡ None → IsNewRoot records shelf new

-- the content has the length of its type
abbrev pub FitsType : Schema → Occurrence → Type 0
FitsType schema new = has_length schema.types (placed None new).row ≡ true

-- a content of the cell's length, with the root's key where it is a root's
pub record KeepsKey (schema : Schema) (at : ℕ) (content : List ℕ) (cell : Cell) : Type 0 where
  pub long : length content ≡ length cell.content
  pub key : cell.code ≡ 1 → key_of schema (segment_in at (set_content content cell)) ≡ key_of schema (segment_in at cell)
