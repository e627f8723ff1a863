-- What a change makes of the list, and what it leaves of a session.
use Rattle.std.specs.Prelude.{Bool, ◌||◌, List, filter, Option, None, Some, if◌then◌else◌}
use Rattle.std.specs.List.{list_any, last_or}
use Rattle.std.specs.Option.{option_map_or}
use Rattle.hal_base.specs.declared.place.Ilk.{Ilk}
use Rattle.hal_schema.specs.declared.row.Row.{Row}
use Rattle.hal_schema.specs.declared.schema.Schema.{Schema}
use Rattle.hal_schema.specs.Row.{same_name, is_new_name}
use Rattle.hal_schema.specs.Insertion.{inserted}
use Rattle.hal_schema.specs.Span.{replaced, without_span}
use Rattle.position_state.specs.declared.session.Anchor.{Anchor}
use Rattle.position_state.specs.declared.session.Anchor.TheVariants.{Front, At}
use Rattle.position_state.specs.declared.session.Session.{Session}
use Rattle.position_state.specs.declared.spot.Spot.{Spot}
use Rattle.position_state.specs.declared.spot.Change.{Change}
use Rattle.position_state.specs.declared.spot.Change.TheVariants.{Nothing, Insert, Replace, Delete, Heal}
use Rattle.position_state.specs.View.{view_of, is_at, up_to}

-- The list after a change, where a new row gets this name. ISRT inserts a row, REPL replaces its content, DLET cuts its
-- span out; a pointer that is set is nothing of the list.
abbrev pub changed : Schema → Change → Ilk → List Row → List Row
changed schema Nothing name rows = rows
changed schema (Insert parent root code content) name rows = inserted schema rows (record { name = name; code = code; parent = parent; content = content })
changed schema (Replace row root content) name rows = replaced rows row content
changed schema (Delete row root) name rows = without_span schema.types rows row
changed schema (Heal index entry) name rows = rows

-- the last element of the old view, at or before the old place, that is in the new view; else the front
abbrev pub kept_anchor : List Spot → List Spot → Anchor → Anchor
kept_anchor old new at = option_map_or (λ spot. spot.at) (last_or None (filter (λ spot. list_any (is_at spot.at) new) (up_to at old))) Front

-- a row that was replaced or deleted
abbrev pub is_struck : Change → List Row → Ilk → Bool
is_struck (Replace row root content) new name = same_name row name || is_new_name new name
is_struck change new name = is_new_name new name

-- a hold ends where its row was replaced or deleted
abbrev pub kept_hold : Change → List Row → Option Anchor → Option Anchor
kept_hold change new (Some (At name root entry)) = if is_struck change new name then None else Some (At name root entry)
kept_hold change new held = held

-- parentage ends where its row was deleted; where only the entry is gone it stays
abbrev pub kept_parent : List Row → Option Anchor → Option Anchor
kept_parent new (Some (At name root entry)) = if is_new_name new name then None else Some (At name root entry)
kept_parent new parent = parent

-- what a change from one list to another leaves of a session that didn't make it
abbrev pub kept_session : Schema → Change → List Row → List Row → Session → Session
kept_session schema change old new session = record session {
  anchor = kept_anchor (view_of schema session.index old) (view_of schema session.index new) session.anchor;
  held = kept_hold change new session.held;
  parent = kept_parent new session.parent;
}
