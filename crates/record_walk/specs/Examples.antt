-- Sides that there are, of three levels, in PHIDAM and in PHDAM; and for each part of what a side is one that breaks it.
use Rattle.std.specs.Prelude.{◌≡◌, ℕ, ◌==◌, true, false, List, [], ◌∷◌, None, Some, codes, find, map, refl, Option}
use Rattle.std.specs.Option.{option_map}
use Rattle.hal_base.specs.declared.place.Ilk.{Ilk}
use Rattle.hal_schema.specs.declared.schema.PartDef.{PartDef}
use Rattle.hal_schema.specs.declared.schema.Schema.{Schema}
use Rattle.hal_schema.specs.declared.schema.SegType.{SegType}
use Rattle.segment_blocks.specs.declared.tile.Cell.{Cell}
use Rattle.record_walk.specs.Tree.{Occurrence, Twins, no_segment, segment, Chains, no_chain, chain}
use Rattle.record_walk.specs.Listing.{list_in}
use Rattle.record_walk.specs.Side.{RootRow, IsSideOf, IsSide}

-- R with the unique key K, below it C, below C the unkeyed G, and U below R
abbrev pub example_types : List SegType
example_types =
    record {
      name = codes "R";
      parent = None;
      bytes = 5;
      key = Some (record { start = 1; bytes = 3; unique = true });
      first = false;
      letter = 65;
      fields = record { name = codes "K"; start = 1; bytes = 3 } ∷ [];
    }
    ∷ record {
      name = codes "C";
      parent = Some 1;
      bytes = 4;
      key = Some (record { start = 1; bytes = 2; unique = false });
      first = false;
      letter = 65;
      fields = record { name = codes "CK"; start = 1; bytes = 2 } ∷ [];
    }
    ∷ record { name = codes "G"; parent = Some 2; bytes = 2; key = None; first = true; letter = 66; fields = [] }
    ∷ record { name = codes "U"; parent = Some 1; bytes = 1; key = None; first = false; letter = 66; fields = [] } ∷ []

abbrev pub one_part : List PartDef
one_part = record { name = codes "P1"; number = 1; high = codes "999"; anchors = 2; fbff = 0; fspf = 0 } ∷ []

abbrev pub phidam : Schema
phidam = record {
  name = codes "EXDB";
  phdam = false;
  rm = None;
  anch = 1;
  rbn = 1;
  types = example_types;
  indexes = [];
  parts = one_part;
  blocks = 40;
  parents = refl;
  type_names = refl;
  index_names = refl;
  part_names = refl;
  part_numbers = refl;
  field_names = refl;
  counts = refl;
  fields = refl;
  keys = refl;
  root_key = refl;
  letters = refl;
  kept_indexes = refl;
  highs = refl;
  kept_parts = refl;
  kept_blocks = refl;
  names = refl;
  module_kept = refl;
  stored_parts = refl;
}

abbrev pub phdam : Schema
phdam = record phidam { phdam = true; kept_parts = refl; module_kept = refl }

abbrev pub name_at : ℕ → Ilk
name_at addr = record { addr = addr; part = 1; number = 1 }

abbrev pub cell_at_home : ℕ → ℕ → ℕ → List ℕ → List ℕ → ℕ × Cell
cell_at_home home code twin children content = (home, record { copied = false; code = code; name = name_at home; twin = twin; children = children; content = content })

-- the first of a list that stands at an address
abbrev pub cells_in : List (ℕ × Cell) → ℕ → Option Cell
cells_in list at = option_map (λ (p : ℕ × Cell). p.1) (find (λ (p : ℕ × Cell). p.0 == at) list)

-- what is below the first root: two C, the first with two G, and a U; behind them the second root, and a cell that was copied
abbrev pub dependents : List (ℕ × Cell)
dependents =
    cell_at_home 32 2 80 (64 ∷ []) (codes "01xx") ∷ cell_at_home 64 3 48 [] (codes "g2") ∷ cell_at_home 48 3 0 [] (codes "g1") ∷ cell_at_home 80 2 0 (0 ∷ []) (codes "01yy")
    ∷ cell_at_home 112 4 0 [] (codes "u") ∷ cell_at_home 96 1 0 (0 ∷ 0 ∷ []) (codes "700bb")
    ∷ (144, record { copied = true; code = 1; name = name_at 144; twin = 16; children = 32 ∷ 112 ∷ []; content = codes "000cc" }) ∷ []

-- the twin of the first root: in PHIDAM it means nothing, in PHDAM it is the second root, whose key is on the same anchor
abbrev pub example_cells : ℕ → List (ℕ × Cell)
example_cells twin = cell_at_home 16 1 twin (32 ∷ 112 ∷ []) (codes "001aa") ∷ dependents

abbrev pub at : ℕ → ℕ → List ℕ → Occurrence
at home code content = record { home = home; code = code; name = name_at home; content = content }

-- a G with its next twins; a C with its G and its next twins; and so what is below the first root
abbrev pub g_at : ℕ → List ℕ → Twins → Twins
g_at home content next = segment (at home 3 content) no_chain next

abbrev pub c_at : ℕ → List ℕ → Twins → Twins → Twins
c_at home content first next = segment (at home 2 content) (chain first no_chain) next

abbrev pub below_r1 : Chains
below_r1 =
    chain (c_at 32 (codes "01xx") (g_at 64 (codes "g2") (g_at 48 (codes "g1") no_segment)) (c_at 80 (codes "01yy") no_segment no_segment))
    (chain (segment (at 112 4 (codes "u")) no_chain no_segment) no_chain)

abbrev pub r7 : Twins
r7 = segment (at 96 1 (codes "700bb")) (chain no_segment (chain no_segment no_chain)) no_segment

abbrev pub r1 : Twins → Twins
r1 next = segment (at 16 1 (codes "001aa")) below_r1 next

abbrev pub row : List ℕ → ℕ → RootRow
row key home = record { key = key; home = home }

abbrev pub two_rows : List RootRow
two_rows = row (codes "001") 16 ∷ row (codes "700") 96 ∷ []

abbrev pub one_row : List RootRow
one_row = row (0 ∷ 0 ∷ 0 ∷ 1 ∷ []) 16 ∷ []

abbrev pub two_trees : Chains
two_trees = chain (r1 no_segment) (chain r7 no_chain)

abbrev pub one_tree : Chains
one_tree = chain (r1 r7) no_chain

-- both sides walk to one list, the homes in hierarchic sequence
pub record AreSides : Type 0 where
  pub phidam_side : IsSideOf phidam 0 (cells_in (example_cells 144)) two_rows two_trees
  pub phdam_side : IsSideOf phdam 0 (cells_in (example_cells 96)) one_row one_tree
  pub walked : map (λ p. p.home) (list_in None two_trees) ≡ 16 ∷ 32 ∷ 64 ∷ 48 ∷ 80 ∷ 112 ∷ 96 ∷ []
  pub names : map (λ p. p.row.name.addr) (list_in None two_trees) ≡ 16 ∷ 32 ∷ 64 ∷ 48 ∷ 80 ∷ 112 ∷ 96 ∷ []
  pub parents : map (λ p. p.row.parent) (list_in None two_trees)
      ≡ None ∷ Some (name_at 16) ∷ Some (name_at 32) ∷ Some (name_at 32) ∷ Some (name_at 16) ∷ Some (name_at 16) ∷ None ∷ []
  pub same_list : list_in None one_tree ≡ list_in None two_trees

-- no trees make a side of these cells and rows
abbrev pub IsNoSide : Schema → List (ℕ × Cell) → List RootRow → Type 0
IsNoSide schema cells rows = IsSide schema 0 (cells_in cells) rows → ⊥

abbrev pub single : ℕ → List ℕ → List (ℕ × Cell)
single home content = cell_at_home home 1 0 (0 ∷ 0 ∷ []) content ∷ []

-- a first child of a wrong type, which has as many child types as the wanted one; a cell to which two pointers lead; a cell to which none does; two roots
abbrev pub misplaced : List (ℕ × Cell)
misplaced = cell_at_home 16 1 0 (0 ∷ 32 ∷ []) (codes "001aa") ∷ cell_at_home 32 3 0 [] (codes "g1") ∷ []

abbrev pub shared : List (ℕ × Cell)
shared =
    cell_at_home 16 1 0 (32 ∷ 0 ∷ []) (codes "001aa") ∷ cell_at_home 32 2 80 (48 ∷ []) (codes "01xx") ∷ cell_at_home 80 2 0 (48 ∷ []) (codes "01yy") ∷ cell_at_home 48 3 0 [] (codes "g1")
    ∷ []

abbrev pub lost : List (ℕ × Cell)
lost = cell_at_home 16 1 0 (0 ∷ 0 ∷ []) (codes "001aa") ∷ cell_at_home 112 4 0 [] (codes "u") ∷ []

abbrev pub two_roots : List (ℕ × Cell)
two_roots = cell_at_home 16 1 0 (0 ∷ 0 ∷ []) (codes "001aa") ∷ single 96 (codes "700bb")

-- two roots in one chain, the second of another anchor than the first
abbrev pub two_anchors : List (ℕ × Cell)
two_anchors = cell_at_home 96 1 16 (0 ∷ 0 ∷ []) (codes "000bb") ∷ single 16 (codes "001aa")

-- each breaks one part of what a side is
pub record BreakAPart : Type 0 where
  -- a row that leads to no cell; a row that leads nowhere; a row under another key; in PHDAM a root in the chain of another anchor
  pub leads_astray : IsNoSide phidam (example_cells 0) (row (codes "001") 20 ∷ row (codes "700") 96 ∷ [])
  pub unused_row : IsNoSide phidam (single 16 (codes "001aa")) (row (codes "000") 0 ∷ row (codes "001") 16 ∷ [])
  pub other_key : IsNoSide phidam (single 16 (codes "001aa")) (row (codes "002") 16 ∷ [])
  pub other_anchor : IsNoSide phdam (single 16 (codes "001aa")) (row (0 ∷ 0 ∷ 0 ∷ 0 ∷ []) 16 ∷ [])
  pub other_chain : IsNoSide phdam two_anchors (row (0 ∷ 0 ∷ 0 ∷ 0 ∷ []) 96 ∷ [])
  -- a row that leads to a copied cell
  pub copied_is_met : IsNoSide phidam (example_cells 0) (row (codes "000") 144 ∷ [])
  pub wrong_type : IsNoSide phidam misplaced (row (codes "001") 16 ∷ [])
  pub met_twice : IsNoSide phidam shared (row (codes "001") 16 ∷ [])
  pub not_met : IsNoSide phidam lost (row (codes "001") 16 ∷ [])
  -- a root of another partition; roots that fall
  pub other_partition : IsNoSide phidam (single 16 (codes "~~~aa")) (row (codes "~~~") 16 ∷ [])
  pub falling : IsNoSide phidam two_roots (row (codes "700") 96 ∷ row (codes "001") 16 ∷ [])
