-- What a load keeps of the rows before: of each row on the path its type, its name and its key. The last row below a
-- parent is the newest of its children, so it alone tells what the next child may be.
use Rattle.std.specs.Prelude.{◌≡◌, ℕ, ◌+◌, ◌≤◌, ◌==◌, nat_lt, nat_le, true, false, not, Bool, ◌&&◌, ◌||◌, List, [], ◌∷◌, map, Option, None, Some, option_map, MatchOption, Result, Ok, Err, ⊤, if◌then◌else◌}
use Rattle.std.specs.List.{list_all, last_or, slice_get}
use Rattle.std.specs.Option.{option_map_or}
use Rattle.std.specs.Ordering.{is_le, is_lt}
use Rattle.std.specs.Str.{bytes_eq}
use Rattle.hal_schema.specs.declared.row.Row.{Row}
use Rattle.hal_schema.specs.declared.schema.Schema.{Schema}
use Rattle.hal_schema.specs.declared.schema.SegType.{SegType}
use Rattle.hal_schema.specs.Forest.{all_pairs, names_apart}
use Rattle.hal_schema.specs.Keys.{key_cmp}
use Rattle.hal_schema.specs.Row.{row_named, is_new_name, same_parent, are_twins, row_key}
use Rattle.hal_schema.specs.SegType.{parent_code}
use Rattle.hal_loader.specs.Placing.{is_of, coming, with_name, first_name, parent_path, goes_by_key, load_need}
use Rattle.hal_loader.specs.Refusals.{Standing, twins_of, first_that_holds, row_refusals, refusal_of}
use Rattle.hal_loader.specs.Loading.{Taken, Loads, AreLoaded, begin, stands_after, stands_after_all}
use Rattle.hal_loader.specs.Taker.{TakerView}
use Rattle.hal_loader.specs.declared.fault.RowFault.{RowFault}
use Rattle.hal_loader.specs.declared.fault.RowFault.TheVariants.{Broken, Failed, Memory}
use Rattle.hal_loader.specs.declared.path.Level.{Level}

abbrev pub level_kept : List SegType → Row → Level
level_kept types row = record { code = row.code; name = row.name; key = row_key types row }

abbrev pub code_kept : Level → ℕ
code_kept level = level.code

-- the last that is passed on the way up to the first of this type
abbrev pub passed_on : {X : Type 0} → (X → ℕ) → Option ℕ → Option X → List X → Option X
passed_on code wanted passed [] = passed
passed_on code wanted passed (row ∷ above) = if is_of wanted (code row) then passed else passed_on code wanted (Some row) above

-- the newest sibling is of a later type; its key is above this one; it has this key
abbrev pub is_of_later_type : Option Level → ℕ → Bool
is_of_later_type below code = option_map_or (λ l. nat_lt code l.code) below false

abbrev pub is_above_key : Option Level → ℕ → List ℕ → Bool
is_above_key below code key = option_map_or (λ l. l.code == code && is_lt (key_cmp key l.key)) below false

abbrev pub has_same_key : Option Level → ℕ → List ℕ → Bool
has_same_key below code key = option_map_or (λ l. l.code == code && bytes_eq key l.key) below false

-- A row that is found by its name; none of its siblings is of a later type; and where twins go behind one another, it is
-- the last of its twins, and has the highest key of them.
pub record IsNewest (schema : Schema) (rows : List Row) (row : Row) : Type 0 where
  pub found : row_named rows row.name ≡ Some row
  pub latest : list_all (λ r. not (same_parent r.parent row.parent) || nat_le r.code row.code) rows ≡ true
  pub last : goes_by_key schema row ≡ false → last_or None (twins_of rows row) ≡ Some row
  pub highest : goes_by_key schema row ≡ false → list_all (λ r. not (are_twins r row) || is_le (key_cmp (row_key schema.types r) (row_key schema.types row))) rows ≡ true

-- a row whose parent is the next one of a path upwards
pub record IsOnPath (schema : Schema) (rows : List Row) (row : Row) (above : List Row) : Type 0 where
  pub newest : IsNewest schema rows row
  pub parent : row.parent ≡ first_name above
  pub kind : parent_code schema.types row.code ≡ option_map (λ r. r.code) (slice_get above 0)

abbrev pub AreOnPath : Schema → List Row → List Row → Type 0
AreOnPath schema rows [] = ⊤
AreOnPath schema rows (row ∷ above) = IsOnPath schema rows row above × AreOnPath schema rows above

pub record Carried (schema : Schema) (rows path : List Row) : Type 0 where
  pub on_path : AreOnPath schema rows path
  pub apart : all_pairs names_apart path ≡ true
  pub childless : list_all (λ r. not (same_parent r.parent (first_name path))) rows ≡ true
  pub parents : list_all (λ r. option_map_or (λ name. not (is_new_name rows name)) r.parent true) rows ≡ true

-- a taker tells what stands, and the levels are those of its path
pub record StandsAs (schema : Schema) (view : TakerView) (levels : List Level) (at : Standing) : Type 0 where
  pub rows : view.rows ≡ Some at.rows
  pub free : view.free ≡ at.free
  pub levels_are : levels ≡ map (level_kept schema.types) at.path
  pub carried : Carried schema at.rows at.path

-- where rows are told, something stands
abbrev pub Stands : Schema → TakerView → List Level → Type 0
Stands schema view levels = MatchOption view.rows ⊤ (λ rows. (at : Standing) × StandsAs schema view levels at)

-- the row of a type and a content, below what stands
abbrev pub row_at : List SegType → List Row → ℕ → List ℕ → Row
row_at types path code content = coming (first_name (parent_path types path code)) code content

-- a row was taken that breaks no rule
pub record Places (schema : Schema) (at : Standing) (said : Row) (taken : Taken) : Type 0 where
  pub kept : first_that_holds (row_refusals schema at.rows at.free said) ≡ None
  pub said_is : taken.row ≡ with_name said taken.row.name
  pub new : is_new_name at.rows taken.row.name ≡ true
  pub need : at.free ≤ taken.free + load_need schema at.rows said

-- what a type and a content did to what stood
abbrev pub RowPlaced : Schema → Standing → ℕ → List ℕ → TakerView → List Level → Result Unit RowFault → Type 0
RowPlaced schema at code content new levels (Ok done) =
    (taken : Taken) × Places schema at (row_at schema.types at.path code content) taken × StandsAs schema new levels (stands_after schema at taken)
RowPlaced schema at code content new levels (Err (Broken rule)) =
    (first_that_holds (row_refusals schema at.rows at.free (row_at schema.types at.path code content)) ≡ Some rule) × (new.rows ≡ Some at.rows) × (new.free ≡ at.free)
RowPlaced schema at code content new levels (Err Failed) = ⊤
RowPlaced schema at code content new levels (Err Memory) = ⊤

-- what a record did to what stood
abbrev pub RowDid : Schema → Standing → List (List ℕ) → TakerView → List Level → Result Unit RowFault → Type 0
RowDid schema at fields new levels (Ok done) = (taken : Taken) × Loads schema at fields taken × StandsAs schema new levels (stands_after schema at taken)
RowDid schema at fields new levels (Err (Broken code)) = (refusal_of schema at fields ≡ Some code) × (new.rows ≡ Some at.rows) × (new.free ≡ at.free)
RowDid schema at fields new levels (Err Failed) = ⊤
RowDid schema at fields new levels (Err Memory) = ⊤

-- Records were loaded on a taker that was empty, where it tells its rows.
pub record HasLoaded (schema : Schema) (old now : TakerView) (levels : List Level) (done : List (List (List ℕ))) : Type 0 where
  pub taken : List Taken
  pub loaded : AreLoaded schema (begin old.free) done taken
  pub stands : StandsAs schema now levels (stands_after_all schema (begin old.free) taken)

abbrev pub Progress : Schema → TakerView → TakerView → List Level → List (List (List ℕ)) → Type 0
Progress schema old now levels done = MatchOption old.rows (now.rows ≡ None) (λ rows. HasLoaded schema old now levels done)
