-- What ISRT, REPL and DLET would do, and how many free blocks they need.
use Rattle.std.specs.Prelude.{ℕ, ◌+◌, ◌==◌, Bool, true, false, not, List, [], ◌∷◌, ◌++◌, length, find, count_by, Option, None, Some, option_and_then, if◌then◌else◌}
use Rattle.std.specs.List.{last_or}
use Rattle.std.specs.Option.{option_map, option_map_or}
use Rattle.std.specs.Str.{bytes_eq}
use Rattle.hal_base.specs.declared.place.Ilk.{Ilk}
use Rattle.hal_schema.specs.declared.row.Row.{Row}
use Rattle.hal_schema.specs.declared.schema.IndexDef.{IndexDef}
use Rattle.hal_schema.specs.declared.schema.Schema.{Schema}
use Rattle.hal_schema.specs.Entry.{entry_key}
use Rattle.hal_schema.specs.Paths.{paths_of, concatenated_key}
use Rattle.hal_schema.specs.Row.{same_name, row_key}
use Rattle.hal_schema.specs.SegType.{type_of, parent_code}
use Rattle.call_text.specs.declared.line.Call.{Call}
use Rattle.call_text.specs.declared.line.Ssa.{Ssa}
use Rattle.position_state.specs.declared.session.Anchor.{Anchor}
use Rattle.position_state.specs.declared.session.Anchor.TheVariants.{Front, At}
use Rattle.position_state.specs.declared.session.Session.{Session}
use Rattle.position_state.specs.declared.spot.Spot.{Spot}
use Rattle.position_state.specs.View.{view_of, root_named, is_at}
use Rattle.dli_calls.specs.Ssas.{code_named, fitted}
use Rattle.dli_calls.specs.Meets.{on_paths, meets}
use Rattle.dli_calls.specs.Gets.{OnPath}

-- the type that an ISRT inserts
abbrev pub inserted_code : Schema → Call → ℕ
inserted_code schema call = option_map_or (λ (ssa : Ssa). option_map_or (λ code. code) (code_named schema ssa.seg) 0) (last_or None call.ssas) 0

abbrev pub all_but_last : List Ssa → List Ssa
all_but_last [] = []
all_but_last (ssa ∷ []) = []
all_but_last (ssa ∷ next ∷ more) = ssa ∷ all_but_last (next ∷ more)

-- with several SSAs the first element that meets all but the last
abbrev pub parent_by_path : Schema → List Row → Call → Option Spot
parent_by_path schema rows call =
    let view = view_of schema None rows in
    option_map (λ (p : OnPath). p.1) (find (meets schema None view (all_but_last call.ssas)) (on_paths view))

-- with a lone SSA the element of the parent type on the path to the anchor
abbrev pub parent_by_anchor : Schema → List Row → ℕ → Session → Option Spot
parent_by_anchor schema rows code session =
    option_and_then (λ (p : OnPath). option_and_then (λ above. find (λ (spot : Spot). spot.code == above) p.0) (parent_code schema.types code))
    (find (λ (p : OnPath). is_at session.anchor p.1) (on_paths (view_of schema None rows)))

abbrev pub is_lone : Call → Bool
is_lone call = length call.ssas == 1

abbrev pub found_parent : Schema → List Row → Call → Session → Option Spot
found_parent schema rows call session =
    if is_lone call then parent_by_anchor schema rows (inserted_code schema call) session else parent_by_path schema rows call

-- a root needs no parent
abbrev pub has_parent : Schema → List Row → Call → Session → Bool
has_parent schema rows call session = if inserted_code schema call == 1 then true else option_map_or (λ (spot : Spot). true) (found_parent schema rows call session) false

abbrev pub name_at : Anchor → Option Ilk
name_at Front = None
name_at (At name root entry) = Some name

abbrev pub no_name : Ilk
no_name = record { addr = 0; part = 0; number = 0 }

-- the data of a call at the length of a type; none where it doesn't fit
abbrev pub content_for : Schema → ℕ → Call → Option (List ℕ)
content_for schema code call = option_and_then (λ t. option_and_then (fitted t.bytes) call.content) (type_of schema.types code)

abbrev pub content_or_none : Schema → ℕ → Call → List ℕ
content_or_none schema code call = option_map_or (λ content. content) (content_for schema code call) []

-- the row that an ISRT inserts, under any name
abbrev pub new_row : Schema → List Row → Call → Session → Ilk → Row
new_row schema rows call session name =
    let code = inserted_code schema call in
    record {
      name = name;
      code = code;
      parent = if code == 1 then None else option_and_then (λ (spot : Spot). name_at spot.at) (found_parent schema rows call session);
      content = content_or_none schema code call;
    }

-- the key of the root above it
abbrev pub new_root : Schema → List Row → Call → Session → List ℕ
new_root schema rows call session =
    let row = new_row schema rows call session no_name in
    if row.code == 1 then row_key schema.types row else option_map_or (λ (spot : Spot). root_named spot.at) (found_parent schema rows call session) []

abbrev pub new_key : Schema → List Row → Call → Session → List ℕ
new_key schema rows call session =
    let row = new_row schema rows call session no_name in
    (if row.code == 1 then [] else option_map_or (λ (spot : Spot). spot.key) (found_parent schema rows call session) []) ++ row_key schema.types row

-- the held row with its path
abbrev pub held_row : Schema → List Row → Session → Option (List Row × Row)
held_row schema rows session = option_and_then (λ at. option_and_then (λ name. find (λ (p : List Row × Row). same_name p.1.name name) (paths_of schema.types rows)) (name_at at)) session.held

abbrev pub held_code : Schema → List Row → Session → ℕ
held_code schema rows session = option_map_or (λ (p : List Row × Row). p.1.code) (held_row schema rows session) 0

-- whether a REPL of this row gives its entry in this index another key
abbrev pub moves_entry : Schema → List Row × Row → List ℕ → IndexDef → Bool
moves_entry schema p content index =
    let keys = concatenated_key schema.types p.0 in
    if p.1.code == index.source
    then option_map_or (λ key. not (option_map_or (bytes_eq key) (entry_key index p.1.content keys) false)) (entry_key index content keys) false
    else false

-- ISRT: 2 and one for each index; REPL: one for each index whose entry for the row gets another key
abbrev pub need_of_insert : Schema → ℕ
need_of_insert schema = 2 + length schema.indexes

abbrev pub need_of_replace : Schema → List Row → Call → Session → ℕ
need_of_replace schema rows call session =
    option_map_or (λ (p : List Row × Row). count_by (moves_entry schema p (content_or_none schema p.1.code call)) schema.indexes) (held_row schema rows session) 0
