-- Walked partitions that there are: the example sides in PHIDAM and in PHDAM, and a partition of two generations.
use Rattle.std.specs.Prelude.{◌≡◌, ℕ, ◌==◌, true, false, if◌then◌else◌, List, [], ◌∷◌, codes, map, Option, None, Some}
use Rattle.hal_base.specs.declared.place.Cursor.TheVariants.{Front, At}
use Rattle.hal_schema.specs.declared.schema.PartDef.{PartDef}
use Rattle.hal_schema.specs.declared.schema.Schema.{Schema}
use Rattle.hal_schema.specs.Entry.{entries_of}
use Rattle.segment_blocks.specs.declared.tile.Cell.{Cell}
use Rattle.record_walk.specs.Tree.{Chains}
use Rattle.record_walk.specs.Side.{RootRow}
use Rattle.record_walk.specs.Examples.{phidam, phdam, cells_in, example_types, example_cells, two_rows, one_row, two_trees, one_tree, name_at}
use Rattle.record_walk.specs.ChangeExamples.{output, input, by_g, entry_under}
use Rattle.volume_rules.specs.View.{Home}
use Rattle.volume_rules.specs.Volume.{RowsStand, forest_of}
use Rattle.volume_rules.specs.Sides.{KeepsRule4, KeepsRule7}
use Rattle.volume_rules.specs.SideForest.{SidesStand}
use Rattle.walked_rules.specs.Parts.{WalkedPart, view_of, root_sets_of, volume_of}
use Rattle.walked_rules.specs.Laws.{leads_to_record, KeepsTheRest}

abbrev pub only_part : PartDef
only_part = record { name = codes "P1"; number = 1; high = codes "999"; anchors = 2; fbff = 0; fspf = 0 }

-- an idle partition, of one generation
abbrev pub idle : (ℕ → Option Cell) → List RootRow → Chains → WalkedPart
idle cells rows trees = record {
  place = 0;
  part = only_part;
  state = record { part = 1; number = 1; side = 65; state = 73; cursor = Front };
  listed = λ name code. None;
  cells = λ number. cells;
  roots = λ number. rows;
  trees = λ number. trees;
}

abbrev pub idle_phidam : WalkedPart
idle_phidam = idle (cells_in (example_cells 144)) two_rows two_trees

abbrev pub idle_phdam : WalkedPart
idle_phdam = idle (cells_in (example_cells 96)) one_row one_tree

-- the first record is in the output, and its old cells in the input are copied; the second is in the input
abbrev pub moving : WalkedPart
moving = record {
  place = 0;
  part = only_part;
  state = record { part = 1; number = 1; side = 65; state = 67; cursor = At (codes "001") };
  listed = λ name code. None;
  cells = λ number. if number == 2 then output.cells else input.cells;
  roots = λ number. if number == 2 then output.rows else input.rows;
  trees = λ number. if number == 2 then output.trees else input.trees;
}

-- the rules 4, 5 in its part on rows, and 7
pub record KeepsWalkedRules (schema : Schema) (p : WalkedPart) : Type 0 where
  pub rule4 : KeepsRule4 schema (view_of p) (root_sets_of p)
  pub rule5 : RowsStand (view_of p)
  pub rule7 : KeepsRule7 schema p.place (view_of p)

abbrev pub home : ℕ → ℕ → Home
home number addr = record { number = number; addr = addr }

pub record WalkedExamples : Type 0 where
  pub phidam_keeps : KeepsWalkedRules phidam idle_phidam
  pub phdam_keeps : KeepsWalkedRules phdam idle_phdam
  pub moving_keeps : KeepsWalkedRules phidam moving
  -- with the rules 6 and 10 and what else the sides need
  pub phidam_rest : KeepsTheRest phidam idle_phidam
  pub phdam_rest : KeepsTheRest phdam idle_phdam
  -- the volume of the one is a forest
  pub phidam_volume : SidesStand phidam (volume_of (idle_phidam ∷ []) [])
  -- the rows of each generation; a generation that isn't live has none
  pub output_rows : map (λ r. r.addr) ((view_of moving).rows 2) ≡ 16 ∷ 32 ∷ 64 ∷ 48 ∷ 80 ∷ 112 ∷ []
  pub input_rows : map (λ r. r.addr) ((view_of moving).rows 1) ≡ 96 ∷ []
  pub no_rows : (view_of moving).rows 3 ≡ []
  -- the root sets: in PHDAM a row leads to the first root of its anchor
  pub output_root : root_sets_of moving 2 (codes "001") ≡ Some 16
  pub input_root : root_sets_of moving 1 (codes "700") ≡ Some 96
  pub copied_root : root_sets_of moving 1 (codes "001") ≡ None
  pub anchor_root : root_sets_of idle_phdam 1 (0 ∷ 0 ∷ 0 ∷ 1 ∷ []) ≡ Some 16
  -- the entries of the two G lead to the first C; it stands in the record of the key 001, in the output
  pub entries : entries_of example_types by_g (forest_of (volume_of (moving ∷ []) []))
      ≡ record { key = codes "g1"; target = name_at 32; root = codes "001" } ∷ record { key = codes "g2"; target = name_at 32; root = codes "001" } ∷ []
  pub hangs : leads_to_record example_types (view_of moving) (home 2 32) 2 (entry_under (codes "001")) ≡ true
  pub other_key : leads_to_record example_types (view_of moving) (home 2 32) 2 (entry_under (codes "700")) ≡ false
