-- What the entries of an index are.
use Rattle.std.specs.Prelude.{◌≡◌, ℕ, ◌==◌, ◌&&◌, Bool, true, List, Some, count_by, filter, IsTrue}
use Rattle.std.specs.List.{list_any, slice_get, AllZip}
use Rattle.std.specs.Ordering.{is_le}
use Rattle.hal_schema.specs.declared.row.Row.{Row}
use Rattle.hal_schema.specs.declared.schema.IndexDef.{IndexDef}
use Rattle.hal_schema.specs.declared.schema.SegType.{SegType}
use Rattle.hal_schema.specs.declared.schema.Schema.{Schema}
use Rattle.hal_schema.specs.Row.{same_name, row_key}
use Rattle.hal_schema.specs.Paths.{paths_of, concatenated_key}
use Rattle.hal_schema.specs.Keys.{key_cmp}
use Rattle.hal_schema.specs.Entry.{Entry, entry_key, entries_by_row, entries_of}
use Rattle.hal_schema.specs.Lawful.{all_rise}
use Rattle.hal_schema.specs.Forest.{is_forest}

-- the entry of a row: its key is the row's, its target the row of the target type on the row's path, its root the first of the path
pub record IsEntryOf (types : List SegType) (index : IndexDef) (p : List Row × Row) (entry : Entry) : Type 0 where
  pub key : entry_key index p.1.content (concatenated_key types p.0) ≡ Some entry.key
  pub target : list_any (λ row. row.code == index.target && same_name row.name entry.target) p.0 ≡ true
  pub root : (row : Row) × (slice_get p.0 0 ≡ Some row) × (row_key types row ≡ entry.root)

-- each row of the source type has one entry, and there are no others
abbrev pub EntriesAreOfSources : Type 0
EntriesAreOfSources = (schema : Schema) (rows : List Row) (place : ℕ) (index : IndexDef) → IsTrue (is_forest schema rows)
    → slice_get schema.indexes place ≡ Some index
    → AllZip (IsEntryOf schema.types index) (filter (λ p. p.1.code == index.source) (paths_of schema.types rows)) (entries_by_row schema.types index (paths_of schema.types rows))

-- the entries of an index are those, each as often, and their keys never fall
pub record AreInKeyOrder (types : List SegType) (index : IndexDef) (rows : List Row) : Type 0 where
  pub those : (test : Entry → Bool) → count_by test (entries_of types index rows) ≡ count_by test (entries_by_row types index (paths_of types rows))
  pub rise : all_rise (λ a b. is_le (key_cmp a.key b.key)) (entries_of types index rows) ≡ true

abbrev pub EntriesAreInKeyOrder : Type 0
EntriesAreInKeyOrder = (types : List SegType) (index : IndexDef) (rows : List Row) → AreInKeyOrder types index rows
