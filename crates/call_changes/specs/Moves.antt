-- The held row, and what a REPL does to its entries in the indexes.
use Rattle.std.specs.Prelude.{◌≡◌, ℕ, ◌==◌, nat_lt, Bool, true, false, not, ◌&&◌, List, [], codes, count_by, length, is_some, Option, None, Some, IfSome, if◌then◌else◌}
use Rattle.std.specs.List.{list_all}
use Rattle.std.specs.Option.{option_map, option_map_or}
use Rattle.std.specs.Str.{bytes_eq}
use Rattle.hal_schema.specs.declared.row.Row.{Row}
use Rattle.hal_schema.specs.declared.schema.IndexDef.{IndexDef}
use Rattle.hal_schema.specs.declared.schema.Schema.{Schema}
use Rattle.hal_schema.specs.declared.schema.SegType.{SegType}
use Rattle.hal_schema.specs.SegType.{key_in, type_of}
use Rattle.hal_schema.specs.Entry.{entry_key, entries_of, is_taken}
use Rattle.position_state.specs.declared.session.Anchor.{Anchor}
use Rattle.position_state.specs.declared.session.Anchor.TheVariants.{Front, At}
use Rattle.position_state.specs.declared.session.Session.{Session}
use Rattle.position_state.specs.declared.spot.Spot.{Spot}
use Rattle.position_state.specs.Keep.{changed, kept_session}
use Rattle.position_state.specs.Looks.{WalkView, found_at}
use Rattle.position_state.specs.View.{plain_element}
use Rattle.dli_calls.specs.declared.decision.Decision.{Decision}
use Rattle.dli_calls.specs.Changes.{held_row, no_name}
use Rattle.call_changes.specs.Outcome.{carried, refused_with, replacement_of}

-- the element of the row at a place, whatever entry it names
abbrev pub row_at : Anchor → List Spot → Option Spot
row_at Front view = None
row_at (At name root entry) view = found_at (At name root None) view

-- where the list is told, this is the element of the held row
abbrev pub IsHeldRow : Schema → WalkView → Session → Option Spot → Type 0
IsHeldRow schema seen session row = IfSome seen.forest (λ rows. row ≡ option_map (λ p. plain_element schema.types p.0 p.1) (held_row schema rows session))

abbrev pub key_of_entry : IndexDef → List ℕ → List ℕ → List ℕ
key_of_entry index content keys = option_map_or (λ key. key) (entry_key index content keys) []

-- the new key of a row's entry in an index, where this content gives it another one
abbrev pub moved_key : IndexDef → Spot → List ℕ → Option (List ℕ)
moved_key index row content =
    if row.code == index.source && not (bytes_eq (key_of_entry index content row.key) (key_of_entry index row.content row.key))
    then Some (key_of_entry index content row.key) else None

-- whether the entry gets another key; none where another entry has that key
abbrev pub moves_freely : List SegType → List Row → Spot → List ℕ → IndexDef → Option Bool
moves_freely types rows row content index =
    option_map_or (λ key. if is_taken key (entries_of types index rows) then None else Some true) (moved_key index row content) (Some false)

-- how many entries of a row get another key; none where another entry has one of these keys
abbrev pub moved_entries : List SegType → List Row → Spot → List ℕ → List IndexDef → Option ℕ
moved_entries types rows row content indexes =
    if list_all (λ index. is_some (moves_freely types rows row content index)) indexes
    then Some (count_by (λ index. is_some (moved_key index row content)) indexes) else None

-- a content that the held row may have, of which an element shows this: it has the length of the row's type, and keeps the
-- sequence field
pub record MayHave (schema : Schema) (rows : List Row) (session : Session) (row : Spot) (content : List ℕ) : Type 0 where
  pub held : Some row ≡ option_map (λ p. plain_element schema.types p.0 p.1) (held_row schema rows session)
  pub long : option_map_or (λ t. length content == t.bytes) (type_of schema.types row.code) false ≡ true
  pub key : bytes_eq (key_in schema.types row.code content) (key_in schema.types row.code row.content) ≡ true

-- what is decided of a REPL whose content the row may have, by how many entries get another key
abbrev pub replaced_by : Schema → List Row → ℕ → Session → List ℕ → Option ℕ → Decision
replaced_by schema rows free session content None = refused_with (codes "NI") None session
replaced_by schema rows free session content (Some need) =
    let change = replacement_of session.held content in
    if nat_lt free need then refused_with (codes "+R") (Some need) session
    else carried change (kept_session schema change rows (changed schema change no_name rows) session)

abbrev pub replaced_row : Schema → List Row → ℕ → Session → Spot → List ℕ → Decision
replaced_row schema rows free session row content = replaced_by schema rows free session content (moved_entries schema.types rows row content schema.indexes)
