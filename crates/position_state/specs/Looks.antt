-- What looks at a view show.
use Rattle.std.specs.Prelude.{◌≡◌, ℕ, ◌+◌, ◌-◌, ◌^◌, ◌==◌, nat_lt, nat_le, Bool, true, false, ◌&&◌, List, length, min, filter, find, Option, None, IfSome}
use Rattle.std.specs.List.{slice_get, last_or}
use Rattle.std.specs.Option.{option_map, option_map_or}
use Rattle.std.specs.Str.{bytes_eq}
use Rattle.hal_base.specs.Fault.{Fails}
use Rattle.hal_base.specs.declared.place.Ilk.{Ilk}
use Rattle.hal_schema.specs.declared.row.Row.{Row}
use Rattle.hal_schema.specs.declared.schema.Schema.{Schema}
use Rattle.hal_schema.specs.SegType.{search_bytes}
use Rattle.hal_schema.specs.Entry.{entries_of}
use Rattle.hal_schema.specs.Forest.{is_forest}
use Rattle.position_state.specs.declared.session.Anchor.{Anchor}
use Rattle.position_state.specs.declared.session.Anchor.TheVariants.{Front, At}
use Rattle.position_state.specs.declared.spot.Spot.{Spot}
use Rattle.position_state.specs.View.{view_of, is_at, behind, before, is_place_of}

-- the schema, the list, where it is told, and how many blocks are free; how often the disk failed, how many looks there
-- were; whether the walk may still be used
pub record WalkView : Type 0 where
  pub schema : Schema
  pub forest : Option (List Row)
  pub free : ℕ
  pub faults : ℕ
  pub looks : ℕ
  pub live : Bool

-- where the list is told, it is a forest under the schema
abbrev pub tells_forest : WalkView → Bool
tells_forest seen = option_map_or (is_forest seen.schema) seen.forest true

-- one look: nothing is changed, and it is counted
pub record Looked (failed : Type 0) (old new : WalkView) : Type 0 where
  pub faults : Fails failed old.faults new.faults new.live
  pub looks : new.looks ≡ min (old.looks + 1) (2 ^ 64 - 1)
  pub schema : new.schema ≡ old.schema
  pub forest : new.forest ≡ old.forest
  pub free : new.free ≡ old.free

-- where the list is told, this is the element of the view that is wanted
abbrev pub Shows : WalkView → Option ℕ → (List Spot → Option Spot) → Option Spot → Type 0
Shows seen index wanted spot = IfSome seen.forest (λ rows. spot ≡ wanted (view_of seen.schema index rows))

abbrev pub first_behind : Anchor → List Spot → Option Spot
first_behind at view = slice_get (behind at view) 0

abbrev pub last_before : Anchor → List Spot → Option Spot
last_before at view = last_or None (before at view)

-- the first element behind this one that isn't deeper
abbrev pub past : Spot → List Spot → Option Spot
past spot view = find (λ other. nat_le other.level spot.level) (behind spot.at view)

abbrev pub found_at : Anchor → List Spot → Option Spot
found_at Front view = None
found_at (At name root entry) view = find (is_at (At name root entry)) view

abbrev pub root_of_key : List ℕ → List Spot → Option Spot
root_of_key key view = find (λ spot. spot.level == 1 && bytes_eq spot.key key) view

-- the last element before this one that is of a higher level: its parent's, and none where its path begins with it
abbrev pub above : Spot → List Spot → Option Spot
above spot view = last_or None (filter (λ other. nat_lt other.level spot.level) (before spot.at view))

-- the first element whose key is these search fields: the target of the first entry that has them, since it stands before
-- all that is below it
abbrev pub of_entry : List ℕ → List Spot → Option Spot
of_entry search view = find (λ spot. bytes_eq spot.key search) view

-- the target of the entry with a key
abbrev pub taken_by : Schema → ℕ → List ℕ → List Row → Option Ilk
taken_by schema place key rows =
    option_map_or (λ index. option_map (λ entry. entry.target) (find (λ entry. bytes_eq entry.key key) (entries_of schema.types index rows))) (slice_get schema.indexes place) None

abbrev pub Names : WalkView → ℕ → List ℕ → Option Ilk → Type 0
Names seen place key name = IfSome seen.forest (λ rows. name ≡ taken_by seen.schema place key rows)

-- a place of the view, where the list is told
abbrev pub stands_in : WalkView → Option ℕ → Anchor → Bool
stands_in seen index at = option_map_or (λ rows. is_place_of (view_of seen.schema index rows) at) seen.forest true

-- as many bytes as the search fields of the index have
abbrev pub has_search : WalkView → ℕ → List ℕ → Bool
has_search seen place search = option_map_or (λ index. length search == search_bytes index) (slice_get seen.schema.indexes place) false
