-- In the list of records each row stands behind its parent.
use Rattle.std.specs.Prelude.{◌≡◌, ℕ, true, List, Option, None}
use Rattle.hal_schema.specs.declared.schema.Schema.{Schema}
use Rattle.hal_schema.specs.Forest.{rows_are_below_parents}
use Rattle.segment_blocks.specs.declared.tile.Cell.{Cell}
use Rattle.record_walk.specs.Tree.{Chains}
use Rattle.record_walk.specs.Listing.{list_in, rows_of}
use Rattle.record_walk.specs.Spans.{AreRecords}

-- the second part of what a well-formed forest is: the last earlier row of a higher level is the parent
abbrev pub ParentsStandFirst : Type 0
ParentsStandFirst = (schema : Schema) (cells : ℕ → Option Cell) (firsts : List ℕ) (trees : Chains) → AreRecords schema cells firsts trees
    → rows_are_below_parents schema.types (rows_of (list_in None trees)) ≡ true
