-- What a session's places must be, and what a change must be that calls make. All that keeps sessions and lists cites
-- these by name.
use Rattle.std.specs.Prelude.{ℕ, nat_lt, Bool, true, false, ◌&&◌, List, length, Option, None, Some, IsTrue}
use Rattle.std.specs.List.{list_any, slice_get}
use Rattle.std.specs.Option.{option_map_or}
use Rattle.std.specs.Str.{bytes_eq}
use Rattle.hal_base.specs.declared.place.Ilk.{Ilk}
use Rattle.hal_schema.specs.declared.row.Row.{Row}
use Rattle.hal_schema.specs.declared.schema.Schema.{Schema}
use Rattle.hal_schema.specs.Row.{same_name, is_new_name, row_key}
use Rattle.hal_schema.specs.Paths.{paths_of}
use Rattle.hal_schema.specs.Insertion.{may_be_inserted}
use Rattle.hal_schema.specs.Span.{may_be_replaced}
use Rattle.hal_schema.specs.Entry.{entries_of, is_taken}
use Rattle.position_state.specs.declared.session.Anchor.{Anchor}
use Rattle.position_state.specs.declared.session.Anchor.TheVariants.{Front, At}
use Rattle.position_state.specs.declared.session.Session.{Session}
use Rattle.position_state.specs.declared.spot.Change.{Change}
use Rattle.position_state.specs.declared.spot.Change.TheVariants.{Nothing, Insert, Replace, Delete, Heal}
use Rattle.position_state.specs.View.{view_of, is_place_of, root_key_of}

-- a row of this name stands under the root of this key
abbrev pub is_under : Schema → List Row → Ilk → List ℕ → Bool
is_under schema rows name root = list_any (λ p. same_name p.1.name name && bytes_eq (root_key_of schema.types p.0) root) (paths_of schema.types rows)

-- a held row or a parent is a row under the root that it names
abbrev pub is_row_of : Schema → List Row → Option Anchor → Bool
is_row_of schema rows (Some (At name root entry)) = is_under schema rows name root
is_row_of schema rows (Some Front) = false
is_row_of schema rows None = true

abbrev pub is_index_of : Schema → Option ℕ → Bool
is_index_of schema None = true
is_index_of schema (Some place) = nat_lt place (length schema.indexes)

-- a session's index is the schema's, its anchor the front or an element of its view, its held row and its parent rows
pub record Stands (schema : Schema) (rows : List Row) (session : Session) : Type 0 where
  pub index : IsTrue (is_index_of schema session.index)
  pub anchor : IsTrue (is_place_of (view_of schema session.index rows) session.anchor)
  pub held : IsTrue (is_row_of schema rows session.held)
  pub parent : IsTrue (is_row_of schema rows session.parent)

-- a new root names its own key, any other new row the root above its parent
abbrev pub names_its_root : Schema → List Row → Row → List ℕ → Bool
names_its_root schema rows new root = option_map_or (λ parent. is_under schema rows parent root) new.parent (bytes_eq (row_key schema.types new) root)

abbrev pub has_entry : Schema → List Row → ℕ → List ℕ → Bool
has_entry schema rows place key = option_map_or (λ index. is_taken key (entries_of schema.types index rows)) (slice_get schema.indexes place) false

-- What calls may change: a row that may be inserted, whatever new name it gets; content that may replace that of a row;
-- a row that is there; an entry that is there.
abbrev pub IsLawful : Schema → List Row → Change → Type 0
IsLawful schema rows Nothing = IsTrue true
IsLawful schema rows (Insert parent root code content) = (name : Ilk) → IsTrue (is_new_name rows name)
    → IsTrue (may_be_inserted schema rows (record { name = name; code = code; parent = parent; content = content }))
    × IsTrue (names_its_root schema rows (record { name = name; code = code; parent = parent; content = content }) root)
IsLawful schema rows (Replace name root content) = IsTrue (may_be_replaced schema rows name content) × IsTrue (is_under schema rows name root)
IsLawful schema rows (Delete name root) = IsTrue (is_under schema rows name root)
IsLawful schema rows (Heal place entry) = IsTrue (has_entry schema rows place entry)
