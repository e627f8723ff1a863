-- What taking and loading keep, and what the text of unloaded rows says.
use Rattle.std.specs.Prelude.{◌≡◌, ℕ, ◌+◌, ◌≤◌, length, nat_lt, Bool, true, List, [], Some, None, Result, Ok, Err, codes, flat_map, map, IsTrue, ⊤}
use Rattle.std.specs.List.{list_all, AllByRecursion}
use Rattle.std.specs.Option.{option_map}
use Rattle.hal_base.specs.declared.place.Ilk.{Ilk}
use Rattle.hal_schema.specs.declared.row.Row.{Row}
use Rattle.hal_schema.specs.declared.schema.Schema.{Schema}
use Rattle.hal_schema.specs.declared.schema.SegType.{SegType}
use Rattle.hal_schema.specs.Forest.{has_length, is_forest}
use Rattle.hal_schema.specs.Insertion.{enters_freely}
use Rattle.hal_schema.specs.Row.{is_new_name}
use Rattle.hal_loader.specs.Loading.{Taken, AreLoaded, LoadsTold, begin, stands_after_all}
use Rattle.hal_loader.specs.Placing.{with_name, with_loaded}
use Rattle.hal_loader.specs.Refusals.{first_that_holds, may_be_taken, text_refusals}
use Rattle.hal_loader.specs.Taker.{TakerView}
use Rattle.hal_loader.specs.Text.{code_said, content_said, records_of}
use Rattle.hal_loader.specs.Unloading.{fields_said, row_line}
use Rattle.hal_loader.specs.declared.records.LoadFault.{LoadFault}
use Rattle.hal_loader.specs.declared.records.LoadFault.TheVariants.{NotEmpty, Row as BrokenRow, Failed, Memory}

-- a row that a taker may be asked to take, with entries that are free, and a name that no row has
pub record ComesLawfully (schema : Schema) (rows : List Row) (row : Row) (name : Ilk) : Type 0 where
  pub long : has_length schema.types row ≡ true
  pub fits : may_be_taken schema rows row ≡ true
  pub entries : list_all (enters_freely schema.types rows row) schema.indexes ≡ true
  pub new : is_new_name rows name ≡ true

-- taking such a row under such a name keeps a forest
abbrev pub TakingKeeps : Type 0
TakingKeeps = (schema : Schema) (rows : List Row) (row : Row) (name : Ilk) → IsTrue (is_forest schema rows) → ComesLawfully schema rows row name
    → IsTrue (is_forest schema (with_loaded schema rows (with_name row name)))

-- what was loaded into an empty taker is a forest
abbrev pub LoadingKeeps : Type 0
LoadingKeeps = (schema : Schema) (free : ℕ) (records : List (List (List ℕ))) (taken : List Taken) → AreLoaded schema (begin free) records taken
    → IsTrue (is_forest schema (stands_after_all schema (begin free) taken).rows)

-- ---- unloaded rows

-- the text of rows, one after another
abbrev pub unloaded : List SegType → List Row → List ℕ
unloaded types rows = flat_map (row_line types) rows

abbrev pub are_bytes : List Row → Bool
are_bytes rows = list_all (λ row. list_all (λ b. nat_lt b 256) row.content) rows

-- the record of a row breaks no rule by itself, and says its type and its content
pub record SaysRow (types : List SegType) (row : Row) : Type 0 where
  pub kept : first_that_holds (text_refusals types (fields_said types row)) ≡ None
  pub code : code_said types (fields_said types row) ≡ Some row.code
  pub content : content_said types (fields_said types row) ≡ Some row.content

-- the text has a record a row, in order
pub record SaysRows (schema : Schema) (rows : List Row) : Type 0 where
  pub records : records_of (unloaded schema.types rows) ≡ map (fields_said schema.types) rows
  pub says : AllByRecursion (SaysRow schema.types) rows

abbrev pub UnloadedRowsAreSaid : Type 0
UnloadedRowsAreSaid = (schema : Schema) (rows : List Row) → IsTrue (list_all (has_length schema.types) rows) → IsTrue (are_bytes rows) → SaysRows schema rows

-- the text of rows loads again under their own names, where free blocks suffice for one row at a time: no row breaks a rule,
-- and the list is the same
pub record LoadsAgain (schema : Schema) (rows : List Row) (free : ℕ) : Type 0 where
  pub taken : List Taken
  pub loaded : AreLoaded schema (begin free) (records_of (unloaded schema.types rows)) taken
  pub same : (stands_after_all schema (begin free) taken).rows ≡ rows

abbrev pub UnloadedRowsLoadAgain : Type 0
UnloadedRowsLoadAgain = (schema : Schema) (rows : List Row) (free : ℕ) → IsTrue (is_forest schema rows) → IsTrue (are_bytes rows)
    → 3 + length schema.indexes ≤ free → LoadsAgain schema rows free

-- ---- under the names that a taker gives

-- a row under another name, and its parent's
abbrev pub renamed : (Ilk → Ilk) → Row → Row
renamed name row = record { name = name row.name; code = row.code; parent = option_map name row.parent; content = row.content }

-- the rows are there, in order, under some names
pub record CameBack (rows : List Row) (new : TakerView) (count : ℕ) : Type 0 where
  pub count_is : count ≡ length rows
  pub name : Ilk → Ilk
  pub rows_now : new.rows ≡ Some (map (renamed name) rows)

-- what a load of the text of a forest's rows answers, whatever names the taker gives: all rows came back, or blocks didn't suffice
abbrev pub ComesBack : List Row → TakerView → Result ℕ LoadFault → Type 0
ComesBack rows new (Ok count) = CameBack rows new count
ComesBack rows new (Err NotEmpty) = ⊥
ComesBack rows new (Err (BrokenRow number code)) = code ≡ codes "+R"
ComesBack rows new (Err Failed) = ⊤
ComesBack rows new (Err Memory) = ⊤

abbrev pub UnloadedRowsComeBack : Type 0
UnloadedRowsComeBack = (schema : Schema) (rows : List Row) (old new : TakerView) (result : Result ℕ LoadFault) → IsTrue (is_forest schema rows) → IsTrue (are_bytes rows)
    → LoadsTold schema (unloaded schema.types rows) [] old new result → ComesBack rows new result
