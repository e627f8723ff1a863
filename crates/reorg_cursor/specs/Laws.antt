-- Laws of the states of a partition, and of units on the list.
use Rattle.std.specs.Prelude.{◌≡◌, ℕ, ◌<◌, ◌≤◌, true, false, IsTrue, List, [], length, drop, fold, sum, filter, flat_map, None}
use Rattle.hal_base.specs.declared.place.Cursor.{Cursor}
use Rattle.hal_base.specs.declared.place.PartState.{PartState}
use Rattle.hal_schema.specs.declared.row.Row.{Row}
use Rattle.hal_schema.specs.declared.schema.Schema.{Schema}
use Rattle.hal_schema.specs.Forest.{is_forest}
use Rattle.volume_image.specs.Control.{state_fits}
use Rattle.reorg_cursor.specs.State.{start_refusal, unit_refusal, resume_refusal, started, paused, resumed, ended}
use Rattle.reorg_cursor.specs.Groups.{roots_at, is_left, is_done, members, groups_left, stepped, are_all_done, finished, cursor_after, cursor_behind, last_key}

-- a list in hierarchic sequence, and a state that the partition at this place may have
pub record Stands (schema : Schema) (place : ℕ) (rows : List Row) (s : PartState) : Type 0 where
  pub forest : IsTrue (is_forest schema rows)
  pub fits : IsTrue (state_fits schema place s)

-- A unit takes the first groups of those left: what is behind the cursor then is just the records of the others.
pub record TakesFirst (schema : Schema) (place : ℕ) (rows : List Row) (k : ℕ) (s : PartState) : Type 0 where
  pub groups : groups_left schema place rows (stepped schema place rows k s).cursor ≡ drop k (groups_left schema place rows s.cursor)
  pub records : filter (is_left schema (stepped schema place rows k s).cursor) (roots_at schema place rows)
      ≡ flat_map members (drop k (groups_left schema place rows s.cursor))

abbrev pub UnitsTakeFirst : Type 0
UnitsTakeFirst = (schema : Schema) (place : ℕ) (rows : List Row) (s : PartState) (k : ℕ) → Stands schema place rows s → TakesFirst schema place rows k s

-- units of these sizes, one after another
abbrev pub stepped_by : Schema → ℕ → List Row → List ℕ → PartState → PartState
stepped_by schema place rows sizes s = fold (λ before k. stepped schema place rows k before) s sizes

-- Units of any sizes come to where one of as many groups comes; and where they are enough, no group is left.
pub record Reaches (schema : Schema) (place : ℕ) (rows : List Row) (sizes : List ℕ) (s : PartState) : Type 0 where
  pub same : stepped_by schema place rows sizes s ≡ stepped schema place rows (sum sizes) s
  pub all : length (groups_left schema place rows s.cursor) ≤ sum sizes → groups_left schema place rows (stepped_by schema place rows sizes s).cursor ≡ []

abbrev pub UnitsReachOneEnd : Type 0
UnitsReachOneEnd = (schema : Schema) (place : ℕ) (rows : List Row) (s : PartState) (sizes : List ℕ)
    → Stands schema place rows s → unit_refusal s ≡ None → Reaches schema place rows sizes s

-- The cursor only rises: what is at or before it stays there.
abbrev pub CursorsRise : Type 0
CursorsRise = (schema : Schema) (place : ℕ) (rows : List Row) (s : PartState) (k : ℕ) (key : List ℕ)
    → IsTrue (state_fits schema place s) → is_done schema s.cursor key ≡ true → is_done schema (stepped schema place rows k s).cursor key ≡ true

-- What a command that isn't refused makes of a state that the partition may have is one that it may have.
pub record StaysFit (schema : Schema) (place : ℕ) (rows : List Row) (s : PartState) : Type 0 where
  pub start : start_refusal s ≡ None → IsTrue (state_fits schema place (started s))
  pub pause : unit_refusal s ≡ None → IsTrue (state_fits schema place (paused s))
  pub resume : resume_refusal s ≡ None → IsTrue (state_fits schema place (resumed s))
  pub unit : (k : ℕ) → unit_refusal s ≡ None → IsTrue (state_fits schema place (stepped schema place rows k s))
  pub end : unit_refusal s ≡ None → IsTrue (state_fits schema place (ended s))

abbrev pub StatesFit : Type 0
StatesFit = (schema : Schema) (place : ℕ) (rows : List Row) (s : PartState) → Stands schema place rows s → StaysFit schema place rows s

-- An event of FINISH that isn't the last leaves fewer groups, so that a last one comes; that one ends the reorganization.
pub record FinishFalls (schema : Schema) (place : ℕ) (rows : List Row) (s : PartState) : Type 0 where
  pub fewer : are_all_done schema place rows s.cursor ≡ false
      → length (groups_left schema place rows (finished schema place rows s).cursor) < length (groups_left schema place rows s.cursor)
  pub sixteen : are_all_done schema place rows s.cursor ≡ false
      → groups_left schema place rows (finished schema place rows s).cursor ≡ drop 16 (groups_left schema place rows s.cursor)
  pub ends : are_all_done schema place rows s.cursor ≡ true → finished schema place rows s ≡ ended s

abbrev pub FinishEnds : Type 0
FinishEnds = (schema : Schema) (place : ℕ) (rows : List Row) (s : PartState) → Stands schema place rows s → FinishFalls schema place rows s

-- The cursor behind records is that behind the last of them.
abbrev pub CursorsAreOfTheLast : Type 0
CursorsAreOfTheLast = (schema : Schema) (cursor : Cursor) (roots : List Row)
    → cursor_after schema cursor roots ≡ cursor_behind schema cursor (last_key schema roots)
