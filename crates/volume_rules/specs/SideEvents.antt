-- What the events make of the rows of the sides, so that rule 5 is kept.
use Rattle.std.specs.Prelude.{◌≡◌, ◌≢◌, ℕ, ◌+◌, ◌==◌, Bool, true, not, if◌then◌else◌, List, ◌∷◌, ◌++◌, map, filter, None}
use Rattle.std.specs.List.{list_all}
use Rattle.hal_base.specs.declared.place.Cursor.{Cursor}
use Rattle.hal_schema.specs.declared.schema.Schema.{Schema}
use Rattle.hal_schema.specs.Forest.{all_pairs}
use Rattle.hal_base.specs.declared.place.PartState.{PartState}
use Rattle.hal_schema.specs.Span.{with_content}
use Rattle.volume_rules.specs.View.{Home, Homed, Segment, View, same_home}
use Rattle.volume_rules.specs.Events.{among, insertion, replacement, deletion, turned, switch, IsEmptied, Move, fate_in, is_moved, may_move, unit}
use Rattle.volume_rules.specs.Volume.{RowsStand, is_segment_of}
use Rattle.volume_rules.specs.Sides.{is_met, row_follows, RowsFollow, OrderFollows}

abbrev pub home_of : ℕ → Homed → Home
home_of number r = record { number = number; addr = r.addr }

-- the row at a home has another content
abbrev pub replaced_rows : View → Home → List ℕ → ℕ → List Homed
replaced_rows view home content number =
    map (λ r. if same_home (home_of number r) home then record r { row = with_content r.row content } else r) (view.rows number)

-- the rows at these homes are gone
abbrev pub rows_without : View → List Home → ℕ → List Homed
rows_without view homes number = filter (λ r. not (among homes (home_of number r))) (view.rows number)

-- a row of the new segment came between two rows of its side, or to an end of it
pub record GoesIn (view : View) (home : Home) (s : Segment) (rows : ℕ → List Homed) : Type 0 where
  pub row : Homed
  pub front : List Homed
  pub back : List Homed
  pub at : row.addr ≡ home.addr
  pub segment : is_segment_of row.row s ≡ true
  pub was : view.rows home.number ≡ front ++ back
  pub now : rows home.number ≡ front ++ row ∷ back
  pub others : (number : ℕ) → number ≢ home.number → rows number ≡ view.rows number

-- rows of a generation that were there before, or have come by a move
abbrev pub rows_follow : View → ℕ → List Move → List Homed → Bool
rows_follow view number moves rows = list_all (λ r. row_follows view number r (fate_in moves (home_of number r))) rows

-- a unit: the rows of the moved homes are gone from the input, and each move's home is met in the output, where every other row was before
pub record RowsAreCopied (view : View) (moves : List Move) (rows : ℕ → List Homed) : Type 0 where
  pub each : list_all (may_move view) moves ≡ true
  pub input : rows view.state.number ≡ filter (λ r. not (is_moved moves (home_of view.state.number r))) (view.rows view.state.number)
  pub output : rows_follow view (view.state.number + 1) moves (rows (view.state.number + 1)) ≡ true
  pub come : list_all (λ m. is_met (rows (view.state.number + 1)) m.to.addr) moves ≡ true
  pub stay : (addr : ℕ) → is_met (view.rows (view.state.number + 1)) addr ≡ true → is_met (rows (view.state.number + 1)) addr ≡ true
  pub once : all_pairs (λ a b. not (a.addr == b.addr)) (rows (view.state.number + 1)) ≡ true
  pub others : (number : ℕ) → number ≢ view.state.number → number ≢ view.state.number + 1 → rows number ≡ view.rows number

pub record RowsFollowEvents (view : View) : Type 0 where
  pub turn : (state : PartState) → RowsFollow view (turned view state)
  pub insert : (home : Home) (s : Segment) (rows : ℕ → List Homed) → view.segments home ≡ None → GoesIn view home s rows
      → RowsFollow view (insertion view home s rows)
  pub replace : (home : Home) (content : List ℕ) → RowsFollow view (replacement view home content (replaced_rows view home content))
  pub delete : (homes : List Home) → RowsFollow view (deletion view homes (rows_without view homes))
  pub switched : IsEmptied view → RowsFollow view (switch view)
  pub copy : (is_target : ℕ → Bool) (moves : List Move) (cursor : Cursor) (rows : ℕ → List Homed) → RowsAreCopied view moves rows
      → RowsFollow view (unit is_target view moves cursor rows)

abbrev pub EventsMoveRows : Type 0
EventsMoveRows = (view : View) → RowsStand view → RowsFollowEvents view

-- where no row comes and none changes, each two rows stood so before
pub record OrderFollowsEvents (schema : Schema) (place : ℕ) (view : View) : Type 0 where
  pub turn : (state : PartState) → OrderFollows schema place view (turned view state)
  pub delete : (homes : List Home) → OrderFollows schema place view (deletion view homes (rows_without view homes))
  pub switched : OrderFollows schema place view (switch view)

abbrev pub EventsKeepOrder : Type 0
EventsKeepOrder = (schema : Schema) (place : ℕ) (view : View) → OrderFollowsEvents schema place view
