-- A row with the rows below it; deleting it, and replacing its content. DL/I: DLET and REPL.
use Rattle.std.specs.Prelude.{ℕ, ◌==◌, nat_lt, Bool, true, false, not, ◌&&◌, ◌||◌, List, [], ◌∷◌, drop, find, map, take_while, if◌then◌else◌}
use Rattle.std.specs.List.{prefix_len, list_all}
use Rattle.std.specs.Option.{option_map_or}
use Rattle.std.specs.Str.{bytes_eq}
use Rattle.hal_base.specs.declared.place.Ilk.{Ilk}
use Rattle.hal_schema.specs.declared.row.Row.{Row}
use Rattle.hal_schema.specs.declared.schema.SegType.{SegType}
use Rattle.hal_schema.specs.declared.schema.IndexDef.{IndexDef}
use Rattle.hal_schema.specs.declared.schema.Schema.{Schema}
use Rattle.hal_schema.specs.Row.{same_name, row_level, row_key}
use Rattle.hal_schema.specs.Paths.{paths_of, concatenated_key}
use Rattle.hal_schema.specs.Entry.{entry_key, entries_of, is_taken}
use Rattle.hal_schema.specs.Forest.{has_length}

abbrev pub is_deeper : List SegType → Row → Row → Bool
is_deeper types above row = nat_lt (row_level types above) (row_level types row)

-- the row of a name and the rows that follow it, up to the next one that isn't deeper
abbrev pub span_of : List SegType → List Row → Ilk → List Row
span_of types [] name = []
span_of types (row ∷ rows) name = if same_name row.name name then row ∷ take_while (is_deeper types row) rows else span_of types rows name

-- delete cuts the span out
abbrev pub without_span : List SegType → List Row → Ilk → List Row
without_span types [] name = []
without_span types (row ∷ rows) name = if same_name row.name name then drop (prefix_len (is_deeper types row) rows) rows else row ∷ without_span types rows name

-- replace changes the content of the row of this name
abbrev pub with_content : Row → List ℕ → Row
with_content row content = record row { content = content }

abbrev pub replaced : List Row → Ilk → List ℕ → List Row
replaced rows name content = map {A = Row} (λ row. if same_name row.name name then with_content row content else row) rows

-- in this index the entry of a row with new content, if it has one, keeps its key or gets one that no entry has
abbrev pub keeps_freely : List SegType → List Row → List ℕ → List Row → Row → IndexDef → Bool
keeps_freely types rows content path row index =
    let keys = concatenated_key types path in
    not (row.code == index.source)
    || option_map_or (λ key. option_map_or (bytes_eq key) (entry_key index row.content keys) false || not (is_taken key (entries_of types index rows))) (entry_key index content keys) true

-- what new content must be, so that it may replace a row's: it has the length and the sequence field of the old
abbrev pub may_replace : Schema → List Row → List ℕ → List Row → Row → Bool
may_replace schema rows content path row =
    has_length schema.types (with_content row content) && bytes_eq (row_key schema.types (with_content row content)) (row_key schema.types row)
    && list_all (keeps_freely schema.types rows content path row) schema.indexes

abbrev pub may_be_replaced : Schema → List Row → Ilk → List ℕ → Bool
may_be_replaced schema rows name content = option_map_or (λ p. may_replace schema rows content p.0 p.1) (find (λ p. same_name p.1.name name) (paths_of schema.types rows)) false
