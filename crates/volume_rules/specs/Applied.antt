-- Events that there are, so that no law has a condition that can't be met: on the idle example a reorganization begins and
-- copies the first record, and a get heals; a segment comes, changes and goes; and where all records are copied it ends.
use Rattle.std.specs.Prelude.{ℕ, List, [], ◌∷◌, None, Some, codes}
use Rattle.hal_base.specs.declared.place.Cursor.TheVariants.{At}
use Rattle.forest_laws.specs.Examples.{example_schema}
use Rattle.volume_rules.specs.View.{View}
use Rattle.volume_rules.specs.Target.{Pointer}
use Rattle.volume_rules.specs.Rules.{KeepsRules}
use Rattle.volume_rules.specs.Delta.{Delta, after}
use Rattle.volume_rules.specs.Events.{Move, insertion, replacement, deletion, turned, started, unit, switch}
use Rattle.volume_rules.specs.Volume.{pointers_into}
use Rattle.volume_rules.specs.Examples.{Placed, ListRow, home, name, cell, old_cell, placed, list_row, eps, rows_at, view_of, first_part, active, is_indexed}
use Rattle.volume_rules.specs.Examples.{r1, c1, g1, g2, r3, idle_cells, idle_view, idle_volume, active_cells}

abbrev pub pointer : ℕ → List ℕ → ℕ → ℕ → ℕ → Pointer
pointer code root number addr born = record { eps = eps 1 number addr (name 1 1 born); root = root; code = code }

-- two to R, two to C
abbrev pub idle_pointers : List Pointer
idle_pointers = pointers_into example_schema idle_volume 1

abbrev pub move : ℕ → ℕ → Move
move from to = record { from = home 1 from; to = home 2 to }

abbrev pub first_moves : List Move
first_moves = move 16 16 ∷ move 48 32 ∷ move 96 64 ∷ move 80 96 ∷ []

abbrev pub start : Delta
start = turned idle_view (started idle_view.state)

abbrev pub begun : View
begun = after idle_view start

abbrev pub first_unit : Delta
first_unit = unit is_indexed begun first_moves (At (codes "001")) (rows_at active_cells)

abbrev pub copied : View
copied = after begun first_unit

abbrev pub heal : Delta
heal = turned copied copied.state

-- the pointer to the first root is direct again
abbrev pub healed_pointers : List Pointer
healed_pointers = pointer 1 (codes "001") 2 16 16 ∷ pointer 1 (codes "300") 1 128 128 ∷ pointer 2 (codes "001") 1 48 48 ∷ pointer 2 (codes "001") 1 48 48 ∷ []

abbrev pub new_root : Delta
new_root = insertion idle_view (home 1 200) (cell 1 (name 1 1 200) (codes "400dd")) (rows_at idle_cells)

abbrev pub with_new_root : List Pointer
with_new_root = pointer 1 (codes "400") 1 200 200 ∷ idle_pointers

abbrev pub other_content : Delta
other_content = replacement idle_view (home 1 16) (codes "001zz") (rows_at idle_cells)

-- R with all that is below it
abbrev pub first_span : Delta
first_span = deletion idle_view (home 1 16 ∷ home 1 48 ∷ home 1 96 ∷ home 1 80 ∷ []) (rows_at idle_cells)

abbrev pub without_span : List Pointer
without_span = pointer 1 (codes "300") 1 128 128 ∷ []

-- all records are in the output, and the pointers as they were before
abbrev pub emptied_cells : List Placed
emptied_cells =
    placed (home 2 16) (cell 1 r1 (codes "001aa")) None ∷ placed (home 2 32) (cell 2 c1 (codes "01xx")) (Some r1)
    ∷ placed (home 2 64) (cell 3 g2 (codes "g2")) (Some c1) ∷ placed (home 2 96) (cell 3 g1 (codes "g1")) (Some c1)
    ∷ placed (home 2 112) (cell 1 r3 (codes "300cc")) None
    ∷ placed (home 1 16) (old_cell 1 r1 (codes "001aa")) None ∷ placed (home 1 48) (old_cell 2 c1 (codes "01xx")) None
    ∷ placed (home 1 96) (old_cell 3 g2 (codes "g2")) None ∷ placed (home 1 80) (old_cell 3 g1 (codes "g1")) None
    ∷ placed (home 1 128) (old_cell 1 r3 (codes "300cc")) None ∷ []

abbrev pub emptied_list : List ListRow
emptied_list = list_row r1 1 (home 2 16) ∷ list_row c1 2 (home 2 32) ∷ list_row r3 1 (home 2 112) ∷ []

abbrev pub emptied : View
emptied = view_of first_part (active 1 (codes "300")) emptied_cells emptied_list

abbrev pub Keeps : View → List Pointer → Type 0
Keeps view pointers = KeepsRules example_schema.types is_indexed view pointers

pub record CanHappen : Type 0 where
  pub begins : Keeps begun idle_pointers
  pub copies : Keeps copied idle_pointers
  pub heals : Keeps (after copied heal) healed_pointers
  pub comes : Keeps (after idle_view new_root) with_new_root
  pub changes : Keeps (after idle_view other_content) idle_pointers
  pub goes : Keeps (after idle_view first_span) without_span
  pub all_copied : Keeps emptied healed_pointers
  pub switches : Keeps (after emptied (switch emptied)) healed_pointers
