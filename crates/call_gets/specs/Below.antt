-- What a GNP looks at: the record of its parent alone.
use Rattle.std.specs.Prelude.{◌≡◌, ℕ, ◌+◌, ◌*◌, ◌≤◌, nat_lt, false, ◌||◌, List, [], ◌∷◌, length, find, Some, IfSome, if◌then◌else◌}
use Rattle.std.specs.Option.{option_map_or}
use Rattle.std.specs.declared.cmp.Ordering.{Ordering}
use Rattle.std.specs.declared.cmp.Ordering.TheVariants.{Less}
use Rattle.hal_schema.specs.declared.schema.Schema.{Schema}
use Rattle.hal_schema.specs.Roots.{root_cmp}
use Rattle.position_state.specs.declared.session.Anchor.{Anchor}
use Rattle.position_state.specs.declared.session.Anchor.TheVariants.{Front, At}
use Rattle.position_state.specs.declared.spot.Spot.{Spot}
use Rattle.position_state.specs.View.{is_at, behind, root_named}
use Rattle.position_state.specs.declared.session.Session.{Session}
use Rattle.position_state.specs.Looks.{WalkView, found_at}
use Rattle.call_text.specs.declared.line.Call.{Call}
use Rattle.dli_calls.specs.Gets.{is_next, is_unique}
use Rattle.call_gets.specs.Keyed.{rows_under}
use Rattle.call_gets.specs.Scan.{LooksWithin, inside_ahead, level_at, path_of, plain_view}

-- how the record of a place stands to that of an element, in the root order; the front is before each
abbrev pub record_cmp : Schema → Anchor → Spot → Ordering
record_cmp schema Front spot = Less
record_cmp schema (At name root entry) spot = root_cmp schema root (root_named spot.at)

-- the elements of a list before its first root
abbrev pub in_record : List Spot → List Spot
in_record [] = []
in_record (spot ∷ more) = if nat_lt 1 spot.level then spot ∷ in_record more else []

-- behind a place another one is only in the place's own record
abbrev pub IsInRecord : List Spot → Anchor → Anchor → Type 0
IsInRecord view at place = find (is_at place) (behind at view) ≡ find (is_at place) (in_record (behind at view))

-- how many elements are on the path to an element, and how many deeper ones stand right behind it
abbrev pub deeper_around : Spot → List Spot → ℕ
deeper_around spot view = length (path_of spot.at view) + inside_ahead (Some spot.level) (behind spot.at view)

-- how many elements are in the record of the element at a place
abbrev pub rows_around : Anchor → List Spot → ℕ
rows_around at view = option_map_or (λ (spot : Spot). rows_under (root_named spot.at) view) (found_at at view) 0

abbrev pub deeper_at : Anchor → List Spot → ℕ
deeper_at at view = option_map_or (λ spot. deeper_around spot view) (found_at at view) 0

-- how many elements stand behind a place in its record, and how many are around the one at another
abbrev pub ahead_and_around : Anchor → Anchor → List Spot → ℕ
ahead_and_around at parent view = inside_ahead (Some 1) (behind at view) + deeper_at parent view

-- what is on the path to a place, and what is right behind it in its record, are of the record of another; so is what is on the
-- path to that and below it
pub record IsSmall (view : List Spot) (at parent : Anchor) : Type 0 where
  pub around : length (path_of at view) + inside_ahead (Some 1) (behind at view) ≤ rows_around parent view
  pub deeper : deeper_at parent view ≤ rows_around parent view
  pub level : IfSome (level_at (path_of at view) parent) (λ level. 1 ≤ level)

-- where a get that is neither GU nor GN has a parent, and no SSA has L, there are no more looks than so many and two for each
-- element of the parent's record
abbrev pub IsWithinParent : ℕ → Schema → Session → Call → WalkView → WalkView → Type 0
IsWithinParent most schema session call old new =
    (is_unique call || is_next call) ≡ false → IfSome session.parent (λ parent. LooksWithin call.ssas old new (λ rows. most + 2 * rows_around parent (plain_view schema rows)))
