-- The row that an ISRT inserts, by the element of its parent, and what is decided of it.
use Rattle.std.specs.Prelude.{◌≡◌, ℕ, ◌==◌, nat_lt, Bool, true, not, ◌&&◌, List, [], ◌++◌, codes, Option, None, Some, IfSome, is_none, option_and_then, take_while, if◌then◌else◌}
use Rattle.std.specs.List.{list_all, list_any}
use Rattle.std.specs.Option.{option_map_or}
use Rattle.std.specs.Str.{bytes_eq}
use Rattle.hal_schema.specs.declared.row.Row.{Row}
use Rattle.hal_schema.specs.declared.schema.Schema.{Schema}
use Rattle.hal_schema.specs.declared.schema.SegType.{SegType}
use Rattle.hal_schema.specs.declared.schema.IndexDef.{IndexDef}
use Rattle.hal_schema.specs.Entry.{entries_of, is_taken}
use Rattle.hal_schema.specs.Insertion.{enters_freely, has_free_key}
use Rattle.hal_schema.specs.SegType.{key_in, parent_code}
use Rattle.hal_schema.specs.Roots.{partition_of}
use Rattle.call_text.specs.declared.line.Call.{Call}
use Rattle.position_state.specs.declared.session.Session.{Session}
use Rattle.position_state.specs.declared.spot.Change.TheVariants.{Insert}
use Rattle.position_state.specs.declared.spot.Spot.{Spot}
use Rattle.position_state.specs.View.{root_named}
use Rattle.dli_calls.specs.declared.decision.Decision.{Decision}
use Rattle.dli_calls.specs.Changes.{found_parent, inserted_code, name_at, need_of_insert, no_name}
use Rattle.dli_calls.specs.Decided.{reply_of, unheld}
use Rattle.dli_calls.specs.Gets.{blank_status, name_of_type}
use Rattle.call_gets.specs.Scan.{IsFound, plain_view}
use Rattle.call_changes.specs.Moves.{key_of_entry}
use Rattle.call_changes.specs.Outcome.{refused_with}

-- a root needs no parent
abbrev pub wanted_parent : Schema → List Row → Call → Session → Option Spot
wanted_parent schema rows call session = if inserted_code schema call == 1 then None else found_parent schema rows call session

-- a row with this content below this element, under any name
abbrev pub row_below : ℕ → Option Spot → List ℕ → Row
row_below code parent content = record { name = no_name; code = code; parent = option_and_then (λ (spot : Spot). name_at spot.at) parent; content = content }

-- its concatenated key
abbrev pub key_below : List SegType → ℕ → Option Spot → List ℕ → List ℕ
key_below types code parent content = option_map_or (λ (spot : Spot). spot.key) parent [] ++ key_in types code content

-- the key of the root above it
abbrev pub root_below : List SegType → ℕ → Option Spot → List ℕ → List ℕ
root_below types code parent content = option_map_or (λ (spot : Spot). root_named spot.at) parent (key_in types code content)

-- a root whose key is above every high key
abbrev pub is_high_root : Schema → ℕ → List ℕ → Bool
is_high_root schema code content = code == 1 && is_none (partition_of schema (key_in schema.types code content))

-- what an ISRT does that nothing refuses
abbrev pub inserted_below : Schema → Session → ℕ → Option Spot → List ℕ → Decision
inserted_below schema session code parent content = record {
  reply = reply_of blank_status (Some (record { seg = name_of_type schema code; key = key_below schema.types code parent content; content = None }));
  change = Insert (row_below code parent content).parent (root_below schema.types code parent content) code content;
  session = unheld session;
}

-- the key of the entry that a row of a type gets in an index, by its content and its concatenated key
abbrev pub new_entry_key : IndexDef → ℕ → List ℕ → List ℕ → Option (List ℕ)
new_entry_key index code keys content = if code == index.source then Some (key_of_entry index content keys) else None

-- in this index the row gets no entry, or one whose key no entry has
abbrev pub enters_by : List SegType → List Row → ℕ → List ℕ → List ℕ → IndexDef → Bool
enters_by types rows code keys content index = option_map_or (λ key. not (is_taken key (entries_of types index rows))) (new_entry_key index code keys content) true

-- whether of the first elements that are deeper than this one passes
abbrev pub any_deep : ℕ → (Spot → Bool) → List Spot → Bool
any_deep top test view = list_any test (take_while (λ (z : Spot). nat_lt top z.level) view)

-- an element of this type with this sequence field
abbrev pub is_keyed_so : List SegType → ℕ → List ℕ → Spot → Bool
is_keyed_so types code key spot = spot.code == code && bytes_eq (key_in types code spot.content) key

-- a root stands below no element, and any other row below one of the view that is of its parent type
pub record StandsBelow (schema : Schema) (rows : List Row) (code : ℕ) (parent : Option Spot) : Type 0 where
  pub root : code ≡ 1 → parent ≡ None
  pub none : parent ≡ None → code ≡ 1
  pub found : IfSome parent (IsFound (plain_view schema rows))
  pub above : IfSome parent (λ spot. parent_code schema.types code ≡ Some spot.code)

-- what is decided of an ISRT whose row may stand below this element
abbrev pub placed_below : Schema → List Row → ℕ → Session → ℕ → Option Spot → List ℕ → Decision
placed_below schema rows free session code parent content =
    let row = row_below code parent content in
    if not (has_free_key schema rows row) then refused_with (codes "II") None session
    else if not (list_all (enters_freely schema.types rows row) schema.indexes) then refused_with (codes "NI") None session
    else if nat_lt free (need_of_insert schema) then refused_with (codes "+R") (Some (need_of_insert schema)) session
    else inserted_below schema session code parent content
