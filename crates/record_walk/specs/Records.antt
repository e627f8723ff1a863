-- Changed trees are records again: they hang from the rows of the root set, are of the wanted types, and meet no home twice.
use Rattle.std.specs.Prelude.{◌≡◌, ◌≢◌, ℕ, ◌<◌, List, length, slice_get, Option, None, Some, option_and_then}
use Rattle.std.specs.Option.{option_map}
use Rattle.hal_schema.specs.declared.schema.Schema.{Schema}
use Rattle.hal_schema.specs.declared.schema.SegType.{SegType}
use Rattle.segment_blocks.specs.declared.tile.Cell.{Cell}
use Rattle.record_walk.specs.Tree.{Occurrence, Chains, child_codes}
use Rattle.record_walk.specs.Pointers.{Pointer, Behind, Below, Root, with_segment, without_segment, with_content_at}
use Rattle.record_walk.specs.Changes.{leads_to, set_in_rows, set_content, IsSet, new_cell}
use Rattle.record_walk.specs.Spans.{AreRecords, IsIn}

-- the code of the twins to which a pointer leads: that of the twin before them, the child type, or the root type
abbrev pub code_behind : List SegType → Pointer → (ℕ → Option Cell) → Option ℕ
code_behind types (Behind prior) cells = option_map (λ (cell : Cell). cell.code) (cells prior)
code_behind types (Below above place) cells = option_and_then (λ (cell : Cell). slice_get (child_codes types cell.code) place) (cells above)
code_behind types (Root place) cells = Some 1

-- a new segment of that type, with a pointer for each of its child types
abbrev pub NewSegmentsKeepRecords : Type 0
NewSegmentsKeepRecords = (schema : Schema) (cells now : ℕ → Option Cell) (firsts : List ℕ) (trees : Chains) (pointer : Pointer) (new : Occurrence)
    → AreRecords schema cells firsts trees → IsIn pointer cells firsts trees → 0 < new.home → cells new.home ≡ None → code_behind schema.types pointer cells ≡ Some new.code
    → now new.home ≡ Some (new_cell new (length (child_codes schema.types new.code)) (leads_to pointer cells firsts))
    → IsSet pointer new.home cells now (with_segment pointer new (length (child_codes schema.types new.code)) trees)
    → AreRecords schema now (set_in_rows pointer new.home firsts) (with_segment pointer new (length (child_codes schema.types new.code)) trees)

abbrev pub CutsKeepRecords : Type 0
CutsKeepRecords = (schema : Schema) (cells now : ℕ → Option Cell) (firsts : List ℕ) (trees : Chains) (pointer : Pointer) (cut : Cell)
    → AreRecords schema cells firsts trees → IsIn pointer cells firsts trees → 0 < leads_to pointer cells firsts → cells (leads_to pointer cells firsts) ≡ Some cut
    → IsSet pointer cut.twin cells now (without_segment pointer trees) → AreRecords schema now (set_in_rows pointer cut.twin firsts) (without_segment pointer trees)

abbrev pub ReplacedContentKeepsRecords : Type 0
ReplacedContentKeepsRecords = (schema : Schema) (cells now : ℕ → Option Cell) (firsts : List ℕ) (trees : Chains) (home : ℕ) (content : List ℕ)
    → AreRecords schema cells firsts trees → now home ≡ option_map (set_content content) (cells home) → ((other : ℕ) → other ≢ home → now other ≡ cells other)
    → AreRecords schema now firsts (with_content_at home content trees)
