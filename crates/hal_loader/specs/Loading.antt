-- What a load of records does, one row after another.
use Rattle.std.specs.Prelude.{◌≡◌, ℕ, ◌+◌, ◌≤◌, true, List, [], ◌∷◌, ◌++◌, length, None, Some, MatchOption, Result, Ok, Err, ⊤}
use Rattle.hal_schema.specs.declared.row.Row.{Row}
use Rattle.hal_schema.specs.declared.schema.Schema.{Schema}
use Rattle.hal_schema.specs.Row.{is_new_name}
use Rattle.hal_loader.specs.Placing.{with_name, parent_path, with_loaded, load_need}
use Rattle.hal_loader.specs.Refusals.{Standing, row_said, refusal_of}
use Rattle.hal_loader.specs.Taker.{TakerView, TellsSame}
use Rattle.hal_loader.specs.Text.{records_of}
use Rattle.hal_loader.specs.declared.records.LoadFault.{LoadFault}
use Rattle.hal_loader.specs.declared.records.LoadFault.TheVariants.{NotEmpty, Row as BrokenRow, Failed, Memory}

-- a row that was taken: its name, and how many blocks are free behind it
pub record Taken : Type 0 where
  pub row : Row
  pub free : ℕ

abbrev pub begin : ℕ → Standing
begin free = record { rows = []; path = []; free = free }

abbrev pub stands_after : Schema → Standing → Taken → Standing
stands_after schema at taken = record { rows = with_loaded schema at.rows taken.row; path = taken.row ∷ parent_path schema.types at.path taken.row.code; free = taken.free }

-- No rule is broken, and the row that the record says was taken: under a name that no row has, with no more blocks than its need
pub record Loads (schema : Schema) (at : Standing) (fields : List (List ℕ)) (taken : Taken) : Type 0 where
  pub kept : refusal_of schema at fields ≡ None
  pub said : taken.row ≡ with_name (row_said schema.types at.path fields) taken.row.name
  pub new : is_new_name at.rows taken.row.name ≡ true
  pub need : at.free ≤ taken.free + load_need schema at.rows (row_said schema.types at.path fields)

-- each record was taken, in order
abbrev pub AreLoaded : Schema → Standing → List (List (List ℕ)) → List Taken → Type 0
AreLoaded schema at [] [] = ⊤
AreLoaded schema at [] (taken ∷ more) = ⊥
AreLoaded schema at (fields ∷ records) [] = ⊥
AreLoaded schema at (fields ∷ records) (taken ∷ more) = Loads schema at fields taken × AreLoaded schema (stands_after schema at taken) records more

abbrev pub stands_after_all : Schema → Standing → List Taken → Standing
stands_after_all schema at [] = at
stands_after_all schema at (taken ∷ more) = stands_after_all schema (stands_after schema at taken) more

-- ---- what a load answers

-- each record of the text was taken
pub record LoadedAll (schema : Schema) (text : List ℕ) (old new : TakerView) (count : ℕ) : Type 0 where
  pub taken : List Taken
  pub loaded : AreLoaded schema (begin old.free) (records_of text) taken
  pub count_is : count ≡ length (records_of text)
  pub rows_now : new.rows ≡ Some (stands_after_all schema (begin old.free) taken).rows
  pub free_now : new.free ≡ (stands_after_all schema (begin old.free) taken).free

-- this row of the text, counted from 1, is the first that breaks a rule, and the rows before it were taken
pub record RefusedAt (schema : Schema) (text : List ℕ) (old new : TakerView) (row : ℕ) (code : List ℕ) : Type 0 where
  pub before : List (List (List ℕ))
  pub fields : List (List ℕ)
  pub behind : List (List (List ℕ))
  pub split : records_of text ≡ before ++ fields ∷ behind
  pub row_is : row ≡ length before + 1
  pub taken : List Taken
  pub loaded : AreLoaded schema (begin old.free) before taken
  pub refused : refusal_of schema (stands_after_all schema (begin old.free) taken) fields ≡ Some code
  pub rows_now : new.rows ≡ Some (stands_after_all schema (begin old.free) taken).rows
  pub free_now : new.free ≡ (stands_after_all schema (begin old.free) taken).free

-- what a load of a text does to a taker that tells these rows
abbrev pub LoadsTold : Schema → List ℕ → List Row → TakerView → TakerView → Result ℕ LoadFault → Type 0
LoadsTold schema text rows old new (Ok count) = (rows ≡ []) × LoadedAll schema text old new count
LoadsTold schema text rows old new (Err NotEmpty) = (rows ≡ [] → ⊥) × TellsSame old new
LoadsTold schema text rows old new (Err (BrokenRow number code)) = (rows ≡ []) × RefusedAt schema text old new number code
LoadsTold schema text rows old new (Err Failed) = rows ≡ []
LoadsTold schema text rows old new (Err Memory) = rows ≡ []

abbrev pub LoadsText : Schema → List ℕ → TakerView → TakerView → Result ℕ LoadFault → Type 0
LoadsText schema text old new result = MatchOption old.rows ⊤ (λ rows. LoadsTold schema text rows old new result)
