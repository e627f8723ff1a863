-- What SSAs name and ask: types, fields, values, operators and command codes. IMS: segment search arguments.
use Rattle.std.specs.Prelude.{ℕ, ◌+◌, ◌-◌, ◌==◌, nat_le, Bool, false, ◌&&◌, List, [], ◌++◌, length, replicate, take, find, position, codes, Option, None, Some, option_and_then, if◌then◌else◌}
use Rattle.std.specs.List.{list_any, slice_get}
use Rattle.std.specs.Option.{option_map, option_map_or}
use Rattle.std.specs.Ordering.{is_eq, is_ne, is_lt, is_le, is_gt, is_ge}
use Rattle.std.specs.Str.{bytes_eq}
use Rattle.std.specs.declared.cmp.Ordering.{Ordering}
use Rattle.hal_schema.specs.declared.schema.Field.{Field}
use Rattle.hal_schema.specs.declared.schema.IndexDef.{IndexDef}
use Rattle.hal_schema.specs.declared.schema.Schema.{Schema}
use Rattle.hal_schema.specs.Keys.{key_cmp}
use Rattle.hal_schema.specs.SegType.{type_of, portion, search_bytes}
use Rattle.call_text.specs.declared.line.Value.{Value}
use Rattle.call_text.specs.declared.line.Value.TheVariants.{Text, Hex}
use Rattle.call_text.specs.declared.line.Clause.{Clause}
use Rattle.call_text.specs.declared.line.Ssa.{Ssa}
use Rattle.position_state.specs.declared.session.Anchor.{Anchor}
use Rattle.position_state.specs.declared.session.Anchor.TheVariants.{Front, At}
use Rattle.position_state.specs.declared.spot.Spot.{Spot}

-- the code of the type of a name
abbrev pub code_named : Schema → List ℕ → Option ℕ
code_named schema name = option_map (λ place. place + 1) (position (λ t. bytes_eq t.name name) schema.types)

abbrev pub index_of : Schema → Option ℕ → Option IndexDef
index_of schema index = option_and_then (slice_get schema.indexes) index

-- what a clause speaks of: a field of its segment, or the search fields of the session's index, so many bytes
pub data Subject : Type 0 where
  Content : Field → Subject
  Search : ℕ → Subject

-- the XDFLD's name counts on the target's SSA in a session by that index
abbrev pub search_named : IndexDef → ℕ → List ℕ → Option Subject
search_named index code name = if code == index.target && bytes_eq name index.xdfld then Some (Search (search_bytes index)) else None

abbrev pub field_named : Schema → ℕ → List ℕ → Option Subject
field_named schema code name = option_and_then (λ t. option_map Content (find (λ f. bytes_eq f.name name) t.fields)) (type_of schema.types code)

abbrev pub or_else : Option Subject → Option Subject → Option Subject
or_else (Some subject) other = Some subject
or_else None other = other

abbrev pub subject_of : Schema → Option ℕ → ℕ → List ℕ → Option Subject
subject_of schema index code name = or_else (option_and_then (λ i. search_named i code name) (index_of schema index)) (field_named schema code name)

abbrev pub subject_bytes : Subject → ℕ
subject_bytes (Content f) = f.bytes
subject_bytes (Search bytes) = bytes

abbrev pub entry_named : Anchor → List ℕ
entry_named Front = []
entry_named (At name root None) = []
entry_named (At name root (Some key)) = key

-- the bytes of an element that a clause compares
abbrev pub subject_at : Subject → Spot → List ℕ
subject_at (Content f) spot = portion f.start f.bytes spot.content
subject_at (Search bytes) spot = take bytes (entry_named spot.at)

-- a value at a length: a text padded on the right with blanks, a hex value that is as long; none where it doesn't fit
abbrev pub fitted : ℕ → Value → Option (List ℕ)
fitted bytes (Text text) = if nat_le (length text) bytes then Some (text ++ replicate (bytes - length text) 32) else None
fitted bytes (Hex text) = if length text == bytes then Some text else None

abbrev pub operator_of : List ℕ → Option (Ordering → Bool)
operator_of op =
    if bytes_eq op (codes "=") then Some is_eq
    else if bytes_eq op (codes ">") then Some is_gt
    else if bytes_eq op (codes "<") then Some is_lt
    else if bytes_eq op (codes ">=") then Some is_ge
    else if bytes_eq op (codes "<=") then Some is_le
    else if bytes_eq op (codes "NE") then Some is_ne
    else None

-- whether an element's bytes compare with the value as the operator says
abbrev pub compares : Clause → Spot → Subject → Bool
compares clause spot subject =
    option_map_or (λ value. option_map_or (λ test. test (key_cmp (subject_at subject spot) value)) (operator_of clause.op) false) (fitted (subject_bytes subject) clause.value) false

abbrev pub clause_holds : Schema → Option ℕ → ℕ → Spot → Clause → Bool
clause_holds schema index code spot clause = option_map_or (compares clause spot) (subject_of schema index code clause.field) false

-- command code D asks for this level's data too, L for the last twin
abbrev pub asks_data : Ssa → Bool
asks_data ssa = list_any (λ c. c == 68) ssa.codes

abbrev pub asks_last : Ssa → Bool
asks_last ssa = list_any (λ c. c == 76) ssa.codes
