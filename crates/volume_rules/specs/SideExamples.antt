-- Volumes whose sides keep the rules 4, 5 and 7, and partitions that break one of these.
use Rattle.std.specs.Prelude.{ℕ, ◌==◌, ◌&&◌, List, [], ◌∷◌, codes, None, Some, if◌then◌else◌}
use Rattle.std.specs.Str.{bytes_eq}
use Rattle.hal_base.specs.declared.place.Ilk.{Ilk}
use Rattle.forest_laws.specs.Examples.{example_schema}
use Rattle.volume_rules.specs.View.{Homed, View}
use Rattle.volume_rules.specs.Volume.{RowsStand}
use Rattle.volume_rules.specs.Sides.{RootSet, KeepsRule4, KeepsRule7}
use Rattle.volume_rules.specs.SideForest.{KeepAllSides}
use Rattle.volume_rules.specs.Examples.{home, cell, placed, homed, r1, r3, idle, first_part, idle_view, idle_volume}
use Rattle.volume_rules.specs.Examples.{active_view, active_volume, view_of}

-- a row of a root set
pub record RootRow : Type 0 where
  pub number : ℕ
  pub key : List ℕ
  pub addr : ℕ

abbrev pub roots_in : List RootRow → RootSet
roots_in [] number key = None
roots_in (r ∷ rows) number key = if number == r.number && bytes_eq key r.key then Some r.addr else roots_in rows number key

abbrev pub root_row : ℕ → List ℕ → ℕ → RootRow
root_row number key addr = record { number = number; key = key; addr = addr }

abbrev pub idle_roots : List RootRow
idle_roots = root_row 1 (codes "001") 16 ∷ root_row 1 (codes "300") 128 ∷ []

abbrev pub active_roots : List RootRow
active_roots = root_row 2 (codes "001") 16 ∷ root_row 1 (codes "300") 128 ∷ []

pub record SidesAreKept : Type 0 where
  pub idle_rule4 : KeepsRule4 example_schema idle_view (roots_in idle_roots)
  pub active_rule4 : KeepsRule4 example_schema active_view (roots_in active_roots)
  pub idle_sides : KeepAllSides example_schema idle_volume
  pub active_sides : KeepAllSides example_schema active_volume

-- the first partition with other rows
abbrev pub with_rows : List Homed → View
with_rows rows = record idle_view { rows = λ number. rows }

abbrev pub first_row : Homed
first_row = homed (placed (home 1 16) (cell 1 r1 (codes "001aa")) None)

abbrev pub only : ℕ → Ilk → List ℕ → View
only code born content = view_of first_part (idle 1) (placed (home 1 16) (cell code born content) None ∷ []) []

-- the roots of the first partition, the higher one before the lower one
abbrev pub falling : View
falling =
    view_of first_part (idle 1)
    (placed (home 1 128) (cell 1 r3 (codes "300cc")) None ∷ placed (home 1 16) (cell 1 r1 (codes "001aa")) None ∷ []) []

pub record SidesAreBroken : Type 0 where
  -- 4: a root without its row; a row under another key; one that leads to a dependent; in the input to a root that was copied
  pub no_row : KeepsRule4 example_schema idle_view (roots_in (root_row 1 (codes "001") 16 ∷ [])) → ⊥
  pub other_key : KeepsRule4 example_schema idle_view (roots_in (root_row 1 (codes "002") 16 ∷ idle_roots)) → ⊥
  pub to_dependent : KeepsRule4 example_schema idle_view (roots_in (root_row 1 (codes "01") 48 ∷ idle_roots)) → ⊥
  pub to_copied : KeepsRule4 example_schema active_view (roots_in (root_row 1 (codes "001") 16 ∷ active_roots)) → ⊥
  -- 5: a segment that isn't met; one that is met twice; a row where nothing stands
  pub lost : RowsStand (with_rows []) → ⊥
  pub twice : RowsStand (record (only 1 r1 (codes "001aa")) { rows = λ number. first_row ∷ first_row ∷ [] }) → ⊥
  pub of_nothing : RowsStand (with_rows (homed (placed (home 1 20) (cell 1 r1 (codes "001aa")) None) ∷ [])) → ⊥
  -- 7: a root of another partition; roots that fall
  pub elsewhere : KeepsRule7 example_schema 0 (only 1 r1 (codes "700aa")) → ⊥
  pub falls : KeepsRule7 example_schema 0 falling → ⊥
