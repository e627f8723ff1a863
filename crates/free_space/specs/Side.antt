-- The cells of one side of a partition, as one map from address to cell. A side has a data set for each of ten letters, A to J
-- or M to V (IMS: data set groups), and an address holds the place of the letter among them, so that it alone names a cell.
use Rattle.std.specs.Prelude.{◌≡◌, ℕ, ◌+◌, ◌-◌, ◌/◌, ◌^◌, ◌≤◌, nat_le, nat_lt, ◌&&◌, Bool, if◌then◌else◌, List, slice_index, Option, None, Some}
use Rattle.std.specs.List.{list_all}
use Rattle.hal_base.specs.declared.pages.SetId.{SetId}
use Rattle.hal_base.specs.declared.place.Shape.{Shape}
use Rattle.hal_base.specs.ShelfCalls.{ShelfView}
use Rattle.segment_blocks.specs.declared.tile.Cell.{Cell}
use Rattle.free_space.specs.Address.{letter_index}
use Rattle.free_space.specs.Map.{layout_of, cell_at}

-- the data set from which a side's others are named is that of letter A or M: from A to M these two alone have the place 0
pub record IsFirst (set : SetId) : Type 0 where
  pub low : 65 ≤ set.letter
  pub high : set.letter ≤ 77
  pub place : letter_index set.letter ≡ 0

-- the data set of the letter at a place
abbrev pub lettered : SetId → ℕ → SetId
lettered first place = record first { letter = first.letter + place }

-- the place of the letter in an address
abbrev pub place_at : ℕ → ℕ
place_at at = at / 2 ^ 28

-- the letters of the types, by their codes; of either side they are told by A to J, as DSGROUP has them
abbrev pub are_letters : List ℕ → Bool
are_letters letters = list_all (λ letter. nat_le 65 letter && nat_le letter 74) letters

abbrev pub place_of : List ℕ → ℕ → ℕ
place_of letters code = slice_index letters (code - 1) - 65

-- the cell at an address of a data set, none where its pages aren't told
abbrev pub cell_in : List Shape → SetId → Option (List (List ℕ)) → ℕ → Option Cell
cell_in shapes set None at = None
cell_in shapes set (Some pages) at = cell_at set (layout_of shapes pages) at

-- the cell at an address of a side
unfoldable pub side_cell : SetId → List Shape → ShelfView → ℕ → Option Cell
side_cell first shapes shelf at =
    let set = lettered first (place_at at) in
    if nat_lt (place_at at) 10 then cell_in shapes set (shelf.pages set) at else None
