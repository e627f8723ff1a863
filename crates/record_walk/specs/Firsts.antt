-- A new segment that came as a first child, or at the head of a row of the root set, was inserted at its place.
use Rattle.std.specs.Prelude.{◌≡◌, ℕ, ◌<◌, not, Bool, true, length, List, Option, None, Some}
use Rattle.std.specs.List.{slice_get}
use Rattle.hal_schema.specs.declared.schema.Schema.{Schema}
use Rattle.hal_schema.specs.Forest.{all_pairs, names_apart, twin_cmp, twins_rise}
use Rattle.hal_schema.specs.Insertion.{goes_before, is_first, is_twin_before, inserted}
use Rattle.segment_blocks.specs.declared.tile.Cell.{Cell}
use Rattle.record_walk.specs.Tree.{Occurrence, Chains, firsts_of, times_in, child_codes, are_roots}
use Rattle.record_walk.specs.Listing.{placed, list_in, rows_of}
use Rattle.record_walk.specs.Pointers.{Pointer, Behind, Below, Root, with_segment}
use Rattle.record_walk.specs.Side.{heads_in, roots_rise}
use Rattle.record_walk.specs.Siblings.{row_of}
use Rattle.record_walk.specs.Changes.{leads_to}
use Rattle.record_walk.specs.Leads.{stand_so}
use Rattle.record_walk.specs.Spans.{AreRecords, IsIn}
use Rattle.record_walk.specs.SideChanges.{segment_in}

-- a twin that needn't stand before a new segment: its key is higher, or equal under FIRST
abbrev pub stays_behind : Schema → Occurrence → Occurrence → Bool
stays_behind schema new twin = not (goes_before (is_first schema new.code) (twin_cmp schema (row_of twin) (row_of new)))

-- so does the twin to which the pointer led, if there was one
abbrev pub NextStaysBehind : Schema → Pointer → (ℕ → Option Cell) → List ℕ → Occurrence → Type 0
NextStaysBehind schema pointer cells firsts new = (cell : Cell) → 0 < leads_to pointer cells firsts → cells (leads_to pointer cells firsts) ≡ Some cell
    → stays_behind schema new (segment_in (leads_to pointer cells firsts) cell) ≡ true

-- as first child of its type, before a twin that stays behind it: the list's twins stand in order, so no other has to be looked at
abbrev pub FirstChildrenAreInserted : Type 0
FirstChildrenAreInserted =
    (schema : Schema) (cells : ℕ → Option Cell) (firsts : List ℕ) (trees : Chains) (above place : ℕ) (cell : Cell) (new : Occurrence) (kinds : ℕ)
    → AreRecords schema cells firsts trees → IsIn (Below above place) cells firsts trees → all_pairs names_apart (rows_of (list_in None trees)) ≡ true
    → twins_rise schema (rows_of (list_in None trees)) ≡ true → cells above ≡ Some cell → slice_get (child_codes schema.types cell.code) place ≡ Some new.code
    → NextStaysBehind schema (Below above place) cells firsts new
    → rows_of (list_in None (with_segment (Below above place) new kinds trees))
    ≡ inserted schema (rows_of (list_in None trees)) (placed (Some cell.name) new).row

-- Behind a twin that must stand before it, below the same parent, and before a twin that stays behind it. The list's twins stand in order, so no other
-- has to be looked at.
abbrev pub LaterChildrenAreInserted : Type 0
LaterChildrenAreInserted =
    (schema : Schema) (cells : ℕ → Option Cell) (firsts : List ℕ) (trees : Chains) (above place prior : ℕ) (cell : Cell) (new : Occurrence) (kinds : ℕ)
    → AreRecords schema cells firsts trees → 0 < times_in above trees → 0 < times_in prior trees → all_pairs names_apart (rows_of (list_in None trees)) ≡ true
    → twins_rise schema (rows_of (list_in None trees)) ≡ true → cells above ≡ Some cell → slice_get (child_codes schema.types cell.code) place ≡ Some new.code
    → stand_so (λ up row. is_twin_before schema (placed (Some up.name) new).row row) above prior (list_in None trees) ≡ true
    → NextStaysBehind schema (Behind prior) cells firsts new
    → rows_of (list_in None (with_segment (Behind prior) new kinds trees))
    ≡ inserted schema (rows_of (list_in None trees)) (placed (Some cell.name) new).row

-- as a root at the head of a row, where all roots rise with it
abbrev pub FirstRootsAreInserted : Type 0
FirstRootsAreInserted = (schema : Schema) (trees : Chains) (at : ℕ) (new : Occurrence) (kinds : ℕ) → are_roots schema.types trees ≡ true
    → at < length (firsts_of trees) → new.code ≡ 1
    → roots_rise schema (heads_in (with_segment (Root at) new kinds trees)) ≡ true
    → rows_of (list_in None (with_segment (Root at) new kinds trees)) ≡ inserted schema (rows_of (list_in None trees)) (placed None new).row

-- in PHDAM as a root behind another, where all roots rise with it
abbrev pub LaterRootsAreInserted : Type 0
LaterRootsAreInserted = (schema : Schema) (cells : ℕ → Option Cell) (firsts : List ℕ) (trees : Chains) (prior : ℕ) (cell : Cell) (new : Occurrence) (kinds : ℕ)
    → AreRecords schema cells firsts trees → 0 < times_in prior trees → cells prior ≡ Some cell → cell.code ≡ 1 → new.code ≡ 1
    → roots_rise schema (heads_in (with_segment (Behind prior) new kinds trees)) ≡ true
    → rows_of (list_in None (with_segment (Behind prior) new kinds trees)) ≡ inserted schema (rows_of (list_in None trees)) (placed None new).row
