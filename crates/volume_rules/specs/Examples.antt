-- Volumes that there are, so that the rules can be kept, and volumes that break one rule and no lower one.
use Rattle.std.specs.Prelude.{ℕ, ◌==◌, Bool, true, false, ◌&&◌, List, [], ◌∷◌, codes, map, Option, None, Some, if◌then◌else◌}
use Rattle.hal_base.specs.declared.place.Cursor.TheVariants.{Front, At, Anchors}
use Rattle.hal_base.specs.declared.place.Ilk.{Ilk}
use Rattle.hal_base.specs.declared.place.PartState.{PartState}
use Rattle.hal_schema.specs.declared.schema.PartDef.{PartDef}
use Rattle.hal_schema.specs.Row.{same_name}
use Rattle.forest_laws.specs.Examples.{example_schema}
use Rattle.volume_rules.specs.View.{Home, Homed, Segment, View, same_home}
use Rattle.volume_rules.specs.Target.{Eps, Pointer}
use Rattle.volume_rules.specs.Rules.{KeepsHomes, KeepsRule6, KeepsRule8, KeepsRule9, KeepsRule10, KeepsRules}
use Rattle.volume_rules.specs.Tests.{ListKey}
use Rattle.volume_rules.specs.Volume.{IndexRow, Volume, KeepsVolume, is_target_of}

-- ---- partitions by lists

-- a segment at its home, with its parent's name if it is a row of its side
pub record Placed : Type 0 where
  pub home : Home
  pub segment : Segment
  pub parent : Option Ilk

-- a row of the indirect list
pub record ListRow : Type 0 where
  pub name : Ilk
  pub code : ℕ
  pub home : Home

abbrev pub segment_at : List Placed → Home → Option Segment
segment_at [] home = None
segment_at (p ∷ ps) home = if same_home home p.home then Some p.segment else segment_at ps home

abbrev pub listed_at : List ListRow → Ilk → ℕ → Option Home
listed_at [] name code = None
listed_at (r ∷ rs) name code = if same_name name r.name && code == r.code then Some r.home else listed_at rs name code

abbrev pub homed : Placed → Homed
homed p = record {
  addr = p.home.addr;
  row = record { name = p.segment.name; code = p.segment.code; parent = p.parent; content = p.segment.content };
}

-- the rows of a generation, in the order of the list
abbrev pub rows_at : List Placed → ℕ → List Homed
rows_at [] number = []
rows_at (p ∷ ps) number = if p.segment.copied then rows_at ps number else if p.home.number == number then homed p ∷ rows_at ps number else rows_at ps number

abbrev pub view_of : PartDef → PartState → List Placed → List ListRow → View
view_of part state placed listed = record { part = part; state = state; segments = segment_at placed; listed = listed_at listed; rows = rows_at placed }

abbrev pub homes_of : List Placed → List Home
homes_of placed = map (λ p. p.home) placed

abbrev pub keys_of : List ListRow → List ListKey
keys_of listed = map {B = ListKey} (λ r. record { name = r.name; code = r.code }) listed

-- ---- the two partitions of the example schema

abbrev pub first_part : PartDef
first_part = record { name = codes "P1"; number = 1; high = codes "500"; anchors = 1; fbff = 0; fspf = 0 }

abbrev pub second_part : PartDef
second_part = record { name = codes "P2"; number = 2; high = codes "999"; anchors = 1; fbff = 0; fspf = 0 }

abbrev pub idle : ℕ → PartState
idle part = record { part = part; number = 1; side = 65; state = 73; cursor = Front }

abbrev pub home : ℕ → ℕ → Home
home number addr = record { number = number; addr = addr }

abbrev pub name : ℕ → ℕ → ℕ → Ilk
name part number addr = record { addr = addr; part = part; number = number }

abbrev pub cell : ℕ → Ilk → List ℕ → Segment
cell code name content = record { copied = false; code = code; name = name; content = content }

abbrev pub old_cell : ℕ → Ilk → List ℕ → Segment
old_cell code name content = record { copied = true; code = code; name = name; content = content }

abbrev pub placed : Home → Segment → Option Ilk → Placed
placed home segment parent = record { home = home; segment = segment; parent = parent }

abbrev pub eps : ℕ → ℕ → ℕ → Ilk → Eps
eps part number addr name = record { part = part; number = number; addr = addr; name = name }

abbrev pub index_row : List ℕ → Eps → List ℕ → IndexRow
index_row key eps root = record { key = key; eps = eps; root = root }

abbrev pub r1 : Ilk
r1 = name 1 1 16

abbrev pub c1 : Ilk
c1 = name 1 1 48

abbrev pub g1 : Ilk
g1 = name 1 1 80

abbrev pub g2 : Ilk
g2 = name 1 1 96

abbrev pub r3 : Ilk
r3 = name 1 1 128

abbrev pub r7 : Ilk
r7 = name 2 1 16

-- the second partition has one root
abbrev pub second_cells : List Placed
second_cells = placed (home 1 16) (cell 1 r7 (codes "700bb")) None ∷ []

abbrev pub second_view : View
second_view = view_of second_part (idle 2) second_cells []

-- ---- idle: three levels in the first partition

abbrev pub idle_cells : List Placed
idle_cells =
    placed (home 1 16) (cell 1 r1 (codes "001aa")) None ∷ placed (home 1 48) (cell 2 c1 (codes "01xx")) (Some r1)
    ∷ placed (home 1 96) (cell 3 g2 (codes "g2")) (Some c1) ∷ placed (home 1 80) (cell 3 g1 (codes "g1")) (Some c1)
    ∷ placed (home 1 128) (cell 1 r3 (codes "300cc")) None ∷ []

abbrev pub idle_view : View
idle_view = view_of first_part (idle 1) idle_cells []

abbrev pub idle_volume : Volume
idle_volume = record {
  parts = idle_view ∷ second_view ∷ [];
  indexes =
      (index_row (codes "aa") (eps 1 1 16 r1) (codes "001") ∷ index_row (codes "bb") (eps 2 1 16 r7) (codes "700")
      ∷ index_row (codes "cc") (eps 1 1 128 r3) (codes "300") ∷ [])
      ∷ (index_row (codes "g1001") (eps 1 1 48 c1) (codes "001") ∷ index_row (codes "g2001") (eps 1 1 48 c1) (codes "001") ∷ []) ∷ [];
}

-- ---- active: the first record is in the output, at other addresses; its old cells stay, copied; the other is in the input

abbrev pub active : ℕ → List ℕ → PartState
active part last = record { part = part; number = 1; side = 65; state = 67; cursor = At last }

abbrev pub active_cells : List Placed
active_cells =
    placed (home 2 16) (cell 1 r1 (codes "001aa")) None ∷ placed (home 2 32) (cell 2 c1 (codes "01xx")) (Some r1)
    ∷ placed (home 2 64) (cell 3 g2 (codes "g2")) (Some c1) ∷ placed (home 2 96) (cell 3 g1 (codes "g1")) (Some c1)
    ∷ placed (home 1 128) (cell 1 r3 (codes "300cc")) None
    ∷ placed (home 1 16) (old_cell 1 r1 (codes "001aa")) None ∷ placed (home 1 48) (old_cell 2 c1 (codes "01xx")) None
    ∷ placed (home 1 96) (old_cell 3 g2 (codes "g2")) None ∷ placed (home 1 80) (old_cell 3 g1 (codes "g1")) None ∷ []

abbrev pub list_row : Ilk → ℕ → Home → ListRow
list_row name code home = record { name = name; code = code; home = home }

abbrev pub active_list : List ListRow
active_list = list_row r1 1 (home 2 16) ∷ list_row c1 2 (home 2 32) ∷ []

abbrev pub active_view : View
active_view = view_of first_part (active 1 (codes "001")) active_cells active_list

-- one entry of C was healed, the other one and that of R are as they were before the reorganization
abbrev pub active_volume : Volume
active_volume = record {
  parts = active_view ∷ second_view ∷ [];
  indexes =
      (index_row (codes "aa") (eps 1 1 16 r1) (codes "001") ∷ index_row (codes "bb") (eps 2 1 16 r7) (codes "700")
      ∷ index_row (codes "cc") (eps 1 1 128 r3) (codes "300") ∷ [])
      ∷ (index_row (codes "g1001") (eps 1 2 32 c1) (codes "001") ∷ index_row (codes "g2001") (eps 1 1 48 c1) (codes "001") ∷ []) ∷ [];
}

-- ---- single partitions

pub record Example : Type 0 where
  pub part : PartDef
  pub state : PartState
  pub cells : List Placed
  pub listed : List ListRow

abbrev pub shown : Example → View
shown e = view_of e.part e.state e.cells e.listed

abbrev pub later : PartState
later = record { part = 1; number = 2; side = 77; state = 73; cursor = Front }

abbrev pub example : PartState → List Placed → List ListRow → Example
example state cells listed = record { part = first_part; state = state; cells = cells; listed = listed }

abbrev pub is_indexed : ℕ → Bool
is_indexed = is_target_of example_schema

abbrev pub without_index : ℕ → Bool
without_index code = false

-- a partition with anchors, two of four done: the root of anchor 1 is in the output, that of anchor 2 in the input
abbrev pub anchored : ℕ → ℕ → Example
anchored first second = record {
  part = record first_part { anchors = 4 };
  state = record { part = 1; number = 1; side = 65; state = 67; cursor = Anchors 2 };
  cells = placed (home first 16) (cell 1 (name 1 first 16) (codes "001aa")) None
      ∷ placed (home second 128) (cell 1 (name 1 second 128) (codes "002bb")) None ∷ [];
  listed = [];
}

pub record AreKept : Type 0 where
  pub idle : KeepsVolume example_schema idle_volume
  pub active : KeepsVolume example_schema active_volume
  pub anchors : KeepsRules example_schema.types without_index (shown (anchored 2 1)) []

-- ---- partitions that break a rule and no lower one

-- of rule 5: a copied cell of an idle partition
abbrev pub copied_while_idle : Example
copied_while_idle = example (idle 1) (placed (home 1 16) (old_cell 1 r1 (codes "001aa")) None ∷ []) []

-- a cell of a generation that the partition has left
abbrev pub left_behind : Example
left_behind = example later (placed (home 1 16) (cell 1 r1 (codes "001aa")) None ∷ []) []

-- a cell of the next generation of an idle partition
abbrev pub not_yet_live : Example
not_yet_live = example (idle 1) (placed (home 2 16) (cell 1 r1 (codes "001aa")) None ∷ []) []

-- a copied cell in the output
abbrev pub copied_in_output : Example
copied_in_output = example (active 1 (codes "001")) (placed (home 2 16) (old_cell 1 r1 (codes "001aa")) None ∷ []) []

abbrev pub one_root : Ilk → Example
one_root name = example (idle 1) (placed (home 1 16) (cell 1 name (codes "001aa")) None ∷ []) []

-- a record that is reachable in the input and in the output, under one name
abbrev pub in_both_sides : Example
in_both_sides =
    example (active 1 (codes "001"))
    (placed (home 2 16) (cell 1 r1 (codes "001aa")) None ∷ placed (home 1 16) (cell 1 r1 (codes "001aa")) None ∷ []) []

-- a record whose old cell became a hole when it was copied
abbrev pub hole_in_the_input : Example
hole_in_the_input = example (active 1 (codes "001")) (placed (home 2 16) (cell 1 r1 (codes "001aa")) None ∷ []) []

-- a segment that moved in an earlier reorganization, with its row of the list
abbrev pub moved_before : List ListRow → Example
moved_before listed =
    example later (placed (home 2 64) (cell 1 r1 (codes "001aa")) None ∷ []) listed

-- a segment that moved in an earlier reorganization, in the input of a later one whose cursor has passed its root
abbrev pub passed_over : Example
passed_over =
    example (record { part = 1; number = 2; side = 77; state = 67; cursor = At (codes "001") }) (placed (home 2 64) (cell 1 r1 (codes "001aa")) None ∷ [])
    (list_row r1 1 (home 2 64) ∷ [])

abbrev pub to_r1 : ℕ → ℕ → List Pointer
to_r1 number addr = record { eps = eps 1 number addr r1; root = codes "001"; code = 1 } ∷ []

-- a root on the other side than the cursor says, in a database without indexes
abbrev pub not_yet_copied : Example
not_yet_copied = example (active 1 (codes "001")) (placed (home 1 16) (cell 1 r1 (codes "001aa")) None ∷ []) []

abbrev pub copied_too_early : Example
copied_too_early =
    example (active 1 (codes "001"))
    (placed (home 2 16) (cell 1 r3 (codes "300cc")) None ∷ placed (home 1 128) (old_cell 1 r3 (codes "300cc")) None ∷ []) []

abbrev pub BreaksRule6 : Example → Type 0
BreaksRule6 e = KeepsHomes (shown e) × (KeepsRule6 (shown e) → ⊥)

abbrev pub BreaksRule8 : Example → List Pointer → Type 0
BreaksRule8 e pointers = KeepsHomes (shown e) × KeepsRule6 (shown e) × (KeepsRule8 is_indexed (shown e) pointers → ⊥)

abbrev pub BreaksRule9 : Example → List Pointer → Type 0
BreaksRule9 e pointers =
    KeepsHomes (shown e) × KeepsRule6 (shown e) × KeepsRule8 is_indexed (shown e) pointers × (KeepsRule9 is_indexed (shown e) → ⊥)

abbrev pub BreaksRule10 : Example → Type 0
BreaksRule10 e =
    KeepsHomes (shown e) × KeepsRule6 (shown e) × KeepsRule8 without_index (shown e) [] × KeepsRule9 without_index (shown e)
    × (KeepsRule10 example_schema.types (shown e) → ⊥)

pub record AreBroken : Type 0 where
  pub copied_idle : KeepsHomes (shown copied_while_idle) → ⊥
  pub dead : KeepsHomes (shown left_behind) → ⊥
  pub to_come : KeepsHomes (shown not_yet_live) → ⊥
  pub in_output : KeepsHomes (shown copied_in_output) → ⊥
  pub two_of_a_name : BreaksRule6 in_both_sides
  pub other_part : BreaksRule6 (one_root (name 2 1 16))
  pub no_number : BreaksRule6 (one_root (name 1 0 16))
  pub number_to_come : BreaksRule6 (one_root (name 1 2 16))
  pub not_its_own : BreaksRule6 (one_root (name 1 1 96))
  pub no_old_cell : BreaksRule6 hole_in_the_input
  pub wrong_address : BreaksRule8 (example (idle 1) idle_cells []) (to_r1 1 48)
  pub from_tomorrow : BreaksRule8 (moved_before (list_row r1 1 (home 2 64) ∷ [])) (to_r1 3 16)
  pub taken_early : BreaksRule8 (moved_before (list_row r1 1 (home 2 64) ∷ [])) (to_r1 2 16)
  pub other_side : BreaksRule8 passed_over (to_r1 1 16)
  pub not_listed : BreaksRule9 (moved_before []) (to_r1 2 64)
  pub listed_unmoved : BreaksRule9 (example (idle 1) idle_cells (list_row r1 1 (home 1 16) ∷ [])) (to_r1 1 16)
  pub listed_elsewhere : BreaksRule9 (moved_before (list_row r1 1 (home 2 96) ∷ [])) (to_r1 2 64)
  pub listed_other_type : BreaksRule9 (example (active 1 (codes "001")) active_cells (list_row g1 3 (home 2 96) ∷ active_list)) (to_r1 2 16)
  pub behind_cursor : BreaksRule10 not_yet_copied
  pub before_cursor : BreaksRule10 copied_too_early
  pub first_anchors : BreaksRule10 (anchored 1 1)
  pub last_anchors : BreaksRule10 (anchored 2 2)
