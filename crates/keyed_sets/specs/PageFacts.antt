-- What the private functions on one page say of it.
use Rattle.std.specs.Prelude.{◌≡◌, ℕ, ◌-◌, ◌/◌, ◌<◌, ◌≤◌, List, length, Some, insert, slice_get}
use Rattle.std.specs.Option.{option_map}
use Rattle.keyed_sets.specs.declared.row.RowShape.{RowShape}
use Rattle.keyed_sets.specs.Layout.{Row, rows_in, count_of, PutsRows}
use Rattle.keyed_sets.specs.Places.{lower_half, upper_half}

-- the row at a place has this key
pub record HasKeyAt (shape : RowShape) (page : List ℕ) (at : ℕ) (key : List ℕ) : Type 0 where
  pub within : at < count_of page
  pub is : option_map (λ (row : Row). row.0) (slice_get (rows_in shape page) at) ≡ Some key

-- the place where the upper half begins
abbrev pub middle : List Row → ℕ
middle rows = length rows - length rows / 2

-- what a split makes of the two pages, where the new row's place in the full one is `at`
pub record Split (shape : RowShape) (page page2 second second2 : List ℕ) (row : Row) (at : ℕ) : Type 0 where
  pub many : 1 < count_of page
  pub up : middle (rows_in shape page) < at
      → PutsRows shape page page2 (lower_half (rows_in shape page)) × PutsRows shape second second2 (insert (upper_half (rows_in shape page)) (at - middle (rows_in shape page)) row)
  pub down : at ≤ middle (rows_in shape page) → PutsRows shape page page2 (insert (lower_half (rows_in shape page)) at row) × PutsRows shape second second2 (upper_half (rows_in shape page))
