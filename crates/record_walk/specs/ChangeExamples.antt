-- Changes of the sides of the example: each kind of insertion, of a cut and of a replacement, and what each makes of the forest.
use Rattle.std.specs.Prelude.{◌≡◌, ℕ, ◌==◌, true, false, if◌then◌else◌, List, [], ◌∷◌, Option, None, Some, codes, map}
use Rattle.std.specs.List.{list_all, list_any}
use Rattle.std.specs.Option.{option_map}
use Rattle.hal_schema.specs.declared.row.Row.{Row}
use Rattle.hal_schema.specs.declared.schema.IndexDef.{IndexDef}
use Rattle.hal_schema.specs.Entry.{Entry, entries_of}
use Rattle.hal_schema.specs.Forest.{is_forest}
use Rattle.hal_schema.specs.Insertion.{inserted}
use Rattle.hal_schema.specs.Row.{row_key}
use Rattle.hal_schema.specs.Span.{without_span}
use Rattle.segment_blocks.specs.declared.tile.Cell.{Cell}
use Rattle.record_walk.specs.Tree.{Twins, no_segment, segment, Chains, no_chain, chain}
use Rattle.record_walk.specs.Listing.{Placed, placed, list_in, rows_of}
use Rattle.record_walk.specs.Pointers.{Behind, Below, Root, with_segment, without_segment, with_content_at}
use Rattle.record_walk.specs.Side.{RootRow, IsSideOf}
use Rattle.record_walk.specs.Siblings.{twins_follow_in}
use Rattle.record_walk.specs.Roots.{with_row, without_row}
use Rattle.record_walk.specs.Volume.{PlacedSide, listed, precedes, AreSidesInOrder}
use Rattle.record_walk.specs.InRecords.{root_above, hangs_by}
use Rattle.record_walk.specs.OneSide.{rows_in_all}
use Rattle.record_walk.specs.Firsts.{stays_behind}
use Rattle.record_walk.specs.Examples.{phidam, phdam, example_types, cells_in, example_cells, cell_at_home, name_at, at, row, two_rows, one_row, two_trees, one_tree, r1, r7, c_at}

-- cells with one that came or was changed, and without some
abbrev pub put : ℕ × Cell → (ℕ → Option Cell) → ℕ → Option Cell
put p cells home = if p.0 == home then Some p.1 else cells home

abbrev pub gone : List ℕ → (ℕ → Option Cell) → ℕ → Option Cell
gone homes cells home = if list_any (λ h. h == home) homes then None else cells home

-- these were copied
abbrev pub marked : List ℕ → (ℕ → Option Cell) → ℕ → Option Cell
marked homes cells home = if list_any (λ h. h == home) homes then option_map (λ (cell : Cell). record cell { copied = true }) (cells home) else cells home

abbrev pub phidam_cells : ℕ → Option Cell
phidam_cells = cells_in (example_cells 144)

abbrev pub phdam_cells : ℕ → Option Cell
phdam_cells = cells_in (example_cells 96)

abbrev pub anchor_row : ℕ → ℕ → RootRow
anchor_row anchor home = row (0 ∷ 0 ∷ 0 ∷ anchor ∷ []) home

-- the cells of the first root and of the second with another pointer, and new roots
abbrev pub first_root : ℕ → List ℕ → ℕ × Cell
first_root twin children = cell_at_home 16 1 twin children (codes "001aa")

abbrev pub root_cell : ℕ → List ℕ → ℕ × Cell
root_cell twin content = cell_at_home 176 1 twin (0 ∷ 0 ∷ []) content

-- the cell of the second root with a first child, and that child
abbrev pub with_child : (ℕ → Option Cell) → ℕ → Option Cell
with_child cells = put (cell_at_home 96 1 0 (128 ∷ 0 ∷ []) (codes "700bb")) (put (cell_at_home 128 2 0 (0 ∷ []) (codes "05zz")) cells)

-- what the changes make is a side each time
pub record ChangesMakeSides : Type 0 where
  -- a first child; a twin behind the last
  pub first_child : IsSideOf phidam 0 (with_child phidam_cells) two_rows (with_segment (Below 96 0) (at 128 2 (codes "05zz")) 1 two_trees)
  pub behind_twin : IsSideOf phidam 0
      (put (cell_at_home 80 2 160 (0 ∷ []) (codes "01yy")) (put (cell_at_home 160 2 0 (0 ∷ []) (codes "09ww")) phidam_cells)) two_rows
      (with_segment (Behind 80) (at 160 2 (codes "09ww")) 1 two_trees)
  -- in PHIDAM a root, whose row comes first; in PHDAM one behind a root of its anchor, one before them, and one of an anchor that had none
  pub new_root : IsSideOf phidam 0 (put (root_cell 0 (codes "500ee")) phidam_cells)
      (row (codes "001") 16 ∷ row (codes "500") 176 ∷ row (codes "700") 96 ∷ []) (with_segment (Root 1) (at 176 1 (codes "500ee")) 2 (with_row 1 two_trees))
  pub behind_root : IsSideOf phdam 0 (put (first_root 176 (32 ∷ 112 ∷ [])) (put (root_cell 96 (codes "300ff")) phdam_cells)) one_row
      (with_segment (Behind 16) (at 176 1 (codes "300ff")) 2 one_tree)
  pub before_roots : IsSideOf phdam 0 (put (root_cell 16 (codes "  1hh")) phdam_cells) (anchor_row 1 176 ∷ [])
      (with_segment (Root 0) (at 176 1 (codes "  1hh")) 2 one_tree)
  pub new_anchor : IsSideOf phdam 0 (put (root_cell 0 (codes "000kk")) phdam_cells) (anchor_row 0 176 ∷ one_row)
      (with_segment (Root 0) (at 176 1 (codes "000kk")) 2 (with_row 0 one_tree))
  -- a first child goes with what is below it; a root goes, and its row; a record was copied
  pub cut_child : IsSideOf phidam 0 (put (first_root 144 (80 ∷ 112 ∷ [])) (gone (32 ∷ 64 ∷ 48 ∷ []) phidam_cells)) two_rows
      (without_segment (Below 16 0) two_trees)
  pub cut_root : IsSideOf phidam 0 (gone (96 ∷ []) phidam_cells) (row (codes "001") 16 ∷ []) (without_row 1 (without_segment (Root 1) two_trees))
  pub copied : IsSideOf phdam 0 (marked (16 ∷ 32 ∷ 64 ∷ 48 ∷ 80 ∷ 112 ∷ []) phdam_cells) (anchor_row 1 96 ∷ []) (without_segment (Root 0) one_tree)
  -- another content of a root, under its key
  pub replaced : IsSideOf phidam 0 (put (cell_at_home 16 1 144 (32 ∷ 112 ∷ []) (codes "001zz")) phidam_cells) two_rows
      (with_content_at 16 (codes "001zz") two_trees)

-- the output of a partition that moves, with one record, and its input with the other, which is of cells that are left
abbrev pub output : PlacedSide
output = record { place = 0; cells = gone (96 ∷ []) phidam_cells; rows = row (codes "001") 16 ∷ []; trees = chain (r1 no_segment) no_chain }

abbrev pub input : PlacedSide
input = record { place = 0; cells = marked (16 ∷ 32 ∷ 64 ∷ 48 ∷ 80 ∷ 112 ∷ []) phidam_cells; rows = row (codes "700") 96 ∷ []; trees = chain r7 no_chain }

-- the input after a C came below its root, and the output without its first C
abbrev pub grown : PlacedSide
grown = record input { trees = with_segment (Below 96 0) (at 128 2 (codes "05zz")) 1 (chain r7 no_chain) }

abbrev pub shorter : PlacedSide
shorter = record output { trees = without_segment (Below 16 0) (chain (r1 no_segment) no_chain) }

-- an index of G, with its C as the target
abbrev pub by_g : IndexDef
by_g = record {
  seg = codes "C";
  name = codes "IX";
  xdfld = codes "XG";
  source = 3;
  target = 2;
  search = record { name = codes "GG"; start = 1; bytes = 2 } ∷ [];
  subseq = [];
}

-- two C of falling keys below a root
abbrev pub falling_c : Twins
falling_c = c_at 32 (codes "05xx") no_segment (c_at 80 (codes "01yy") no_segment no_segment)

abbrev pub falling_twins : Chains
falling_twins = chain (segment (at 16 1 (codes "001aa")) (chain falling_c (chain no_segment no_chain)) no_segment) no_chain

abbrev pub home_of : Placed → ℕ
home_of p = p.home

abbrev pub the_row : Placed → Row
the_row p = p.row

-- the key of the root of the record in which a home of the example hangs
abbrev pub key_above : ℕ → Option (List ℕ)
key_above home = option_map (row_key example_types) (root_above home_of the_row None (list_in None two_trees) home)

-- an entry of the first C under a root key
abbrev pub entry_under : List ℕ → Entry
entry_under key = record { key = codes "g1"; target = name_at 32; root = key }

pub record SidesMakeForests : Type 0 where
  pub in_order : AreSidesInOrder phidam (output ∷ input ∷ [])
  pub forest : is_forest phidam (rows_of (listed (output ∷ input ∷ []))) ≡ true
  -- the input before the output; twins that fall
  pub disordered : precedes phidam input output ≡ false
  pub no_forest : is_forest phidam (rows_of (listed (input ∷ output ∷ []))) ≡ false
  pub twins_fall : twins_follow_in phidam falling_twins ≡ false
  pub no_twins : is_forest phidam (rows_of (list_in None falling_twins)) ≡ false
  -- changes of one side
  pub grown_list : rows_in_all (output ∷ grown ∷ [])
      ≡ inserted phidam (rows_in_all (output ∷ input ∷ [])) (placed (Some (name_at 96)) (at 128 2 (codes "05zz"))).row
  pub shorter_list : rows_in_all (shorter ∷ input ∷ []) ≡ without_span example_types (rows_in_all (output ∷ input ∷ [])) (name_at 32)
  pub root_list : rows_of (list_in None (with_segment (Root 1) (at 176 1 (codes "500ee")) 2 (with_row 1 two_trees)))
      ≡ inserted phidam (rows_of (list_in None two_trees)) (placed None (at 176 1 (codes "500ee"))).row
  pub behind_list : rows_of (list_in None (with_segment (Behind 16) (at 176 1 (codes "300ff")) 2 one_tree))
      ≡ inserted phdam (rows_of (list_in None one_tree)) (placed None (at 176 1 (codes "300ff"))).row
  -- a first child before a C of higher key, which stays behind it; a C of lower key wouldn't
  pub before_list : rows_of (list_in None (with_segment (Below 16 0) (at 128 2 (codes "00qq")) 1 two_trees))
      ≡ inserted phidam (rows_of (list_in None two_trees)) (placed (Some (name_at 16)) (at 128 2 (codes "00qq"))).row
  pub stays : stays_behind phidam (at 128 2 (codes "00qq")) (at 32 2 (codes "01xx")) ≡ true
  pub goes : stays_behind phidam (at 128 2 (codes "02qq")) (at 32 2 (codes "01xx")) ≡ false
  -- the entries of the two G lead to the first C, which hangs in the record of the key 001
  pub entries : entries_of example_types by_g (rows_of (listed (output ∷ input ∷ [])))
      ≡ record { key = codes "g1"; target = name_at 32; root = codes "001" } ∷ record { key = codes "g2"; target = name_at 32; root = codes "001" } ∷ []
  pub hang : list_all (λ entry. list_all (hangs_by example_types home_of the_row (list_in None output.trees) entry) (list_in None output.trees))
      (entries_of example_types by_g (rows_of (listed (output ∷ input ∷ [])))) ≡ true
  pub own_key : list_all (hangs_by example_types home_of the_row (list_in None two_trees) (entry_under (codes "001"))) (list_in None two_trees) ≡ true
  pub other_key : list_all (hangs_by example_types home_of the_row (list_in None two_trees) (entry_under (codes "700"))) (list_in None two_trees) ≡ false
  pub above : map key_above (16 ∷ 48 ∷ 112 ∷ 96 ∷ 128 ∷ []) ≡ Some (codes "001") ∷ Some (codes "001") ∷ Some (codes "001") ∷ Some (codes "700") ∷ None ∷ []
