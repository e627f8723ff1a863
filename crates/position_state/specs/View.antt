-- What a session sees: the elements of its view, in order. IMS: the plain hierarchic sequence, or a secondary processing
-- sequence (PROCSEQ).
use Rattle.std.specs.Prelude.{ℕ, Bool, true, false, ◌&&◌, List, [], ◌∷◌, ◌++◌, map, take, drop, flat_map, find, Option, None, Some, if◌then◌else◌}
use Rattle.std.specs.List.{slice_get, after_first}
use Rattle.std.specs.Option.{option_map_or}
use Rattle.std.specs.Str.{bytes_eq}
use Rattle.hal_schema.specs.declared.row.Row.{Row}
use Rattle.hal_schema.specs.declared.schema.IndexDef.{IndexDef}
use Rattle.hal_schema.specs.declared.schema.Schema.{Schema}
use Rattle.hal_schema.specs.declared.schema.SegType.{SegType}
use Rattle.hal_schema.specs.SegType.{search_bytes}
use Rattle.hal_schema.specs.Row.{same_name, row_level, row_key}
use Rattle.hal_schema.specs.Paths.{with_paths, paths_of, concatenated_key}
use Rattle.hal_schema.specs.Span.{span_of}
use Rattle.hal_schema.specs.Entry.{Entry, entries_of}
use Rattle.position_state.specs.declared.session.Anchor.{Anchor}
use Rattle.position_state.specs.declared.session.Anchor.TheVariants.{Front, At}
use Rattle.position_state.specs.declared.spot.Spot.{Spot}

-- the key of the root of a path
abbrev pub root_key_of : List SegType → List Row → List ℕ
root_key_of types path = option_map_or (row_key types) (slice_get path 0) []

-- the element of a row with its path in the plain view
abbrev pub plain_element : List SegType → List Row → Row → Spot
plain_element types path row = record {
  at = At row.name (root_key_of types path) None;
  code = row.code;
  level = row_level types row;
  key = concatenated_key types path;
  content = row.content;
}

-- the element of a row in the view of an entry, where the path begins at the entry's target: the search fields stand in
-- place of the keys down to the target
abbrev pub entry_element : List SegType → IndexDef → Entry → List Row → Row → Spot
entry_element types index entry path row = record {
  at = At row.name entry.root (Some entry.key);
  code = row.code;
  level = row_level types row;
  key = take (search_bytes index) entry.key ++ concatenated_key types (drop 1 path);
  content = row.content;
}

-- the target of an entry and what is below it
abbrev pub entry_view : List SegType → IndexDef → List Row → Entry → List Spot
entry_view types index rows entry = map (λ p. entry_element types index entry p.0 p.1) (with_paths (row_level types) [] (span_of types rows entry.target))

-- with no index each row in hierarchic sequence; with one, entry by entry in the order of their keys, what each entry shows
abbrev pub view_of : Schema → Option ℕ → List Row → List Spot
view_of schema None rows = map (λ p. plain_element schema.types p.0 p.1) (paths_of schema.types rows)
view_of schema (Some place) rows = option_map_or (λ index. flat_map (entry_view schema.types index rows) (entries_of schema.types index rows)) (slice_get schema.indexes place) []

abbrev pub same_entry : Option (List ℕ) → Option (List ℕ) → Bool
same_entry None None = true
same_entry (Some a) (Some b) = bytes_eq a b
same_entry a b = false

-- the same element: the same row, in the view of the same entry
abbrev pub same_place : Anchor → Anchor → Bool
same_place Front Front = true
same_place (At a root entry) (At b other more) = same_name a b && same_entry entry more
same_place a b = false

abbrev pub is_at : Anchor → Spot → Bool
is_at at spot = same_place at spot.at

-- the elements behind a place
abbrev pub behind : Anchor → List Spot → List Spot
behind Front view = view
behind (At name root entry) view = after_first (is_at (At name root entry)) view

-- the elements before the first that has a place, and all where none has it
abbrev pub all_before : Anchor → List Spot → List Spot
all_before at [] = []
all_before at (spot ∷ view) = if is_at at spot then [] else spot ∷ all_before at view

-- and that element with them
abbrev pub all_up_to : Anchor → List Spot → List Spot
all_up_to at [] = []
all_up_to at (spot ∷ view) = spot ∷ (if is_at at spot then [] else all_up_to at view)

-- the elements before a place: none before the front
abbrev pub before : Anchor → List Spot → List Spot
before Front view = []
before (At name root entry) view = all_before (At name root entry) view

-- the elements up to a place, and the one at it
abbrev pub up_to : Anchor → List Spot → List Spot
up_to Front view = []
up_to (At name root entry) view = all_up_to (At name root entry) view

abbrev pub root_named : Anchor → List ℕ
root_named Front = []
root_named (At name root entry) = root

-- a place is the front, or that of an element of these, under the root that it names
abbrev pub is_place_of : List Spot → Anchor → Bool
is_place_of view Front = true
is_place_of view (At name root entry) = option_map_or (λ spot. bytes_eq root (root_named spot.at)) (find (is_at (At name root entry)) view) false
