-- What is seen of a taker of rows, and what its calls do.
use Rattle.std.specs.Prelude.{◌≡◌, ℕ, ◌+◌, ◌<◌, ◌≤◌, ◌==◌, true, false, Bool, ◌&&◌, IsTrue, ◌↔◌, List, [], Option, None, Some, IfSome, MatchOption, Result, Ok, Err, ⊤}
use Rattle.std.specs.List.{list_all, list_any}
use Rattle.std.specs.Str.{bytes_eq}
use Rattle.hal_base.specs.declared.place.Ilk.{Ilk}
use Rattle.hal_schema.specs.declared.row.Row.{Row}
use Rattle.hal_schema.specs.declared.schema.Schema.{Schema}
use Rattle.hal_schema.specs.declared.schema.SegType.{SegType}
use Rattle.hal_schema.specs.Insertion.{enters_freely}
use Rattle.hal_schema.specs.Row.{is_new_name, same_parent, row_key}
use Rattle.hal_loader.specs.Placing.{with_name, with_loaded, load_need}
use Rattle.hal_loader.specs.declared.taker.TakeFault.{TakeFault}
use Rattle.hal_loader.specs.declared.taker.TakeFault.TheVariants.{Twice, NoRoom, Failed, Memory}

-- The rows, where they are told; how many blocks are free; how often the disk failed; whether the taker may still be used.
pub record TakerView : Type 0 where
  pub rows : Option (List Row)
  pub free : ℕ
  pub faults : ℕ
  pub live : Bool

-- the same is told
pub record TellsSame (old new : TakerView) : Type 0 where
  pub rows : new.rows ≡ old.rows
  pub free : new.free ≡ old.free

-- the row came under a name that no row had, and took no more blocks than its need
pub record TookRow (schema : Schema) (rows : List Row) (row : Row) (old new : TakerView) (name : Ilk) : Type 0 where
  pub new_name : is_new_name rows name ≡ true
  pub entries : list_all (enters_freely schema.types rows row) schema.indexes ≡ true
  pub room : load_need schema rows row ≤ old.free
  pub rows_now : new.rows ≡ Some (with_loaded schema rows (with_name row name))
  pub free_now : old.free ≤ new.free + load_need schema rows row

-- an index has the key of an entry of the row already
pub record IsTwice (schema : Schema) (rows : List Row) (row : Row) (old new : TakerView) : Type 0 where
  pub entries : list_all (enters_freely schema.types rows row) schema.indexes ≡ false
  pub same : TellsSame old new

-- the free blocks are below the need
pub record HasNoRoom (schema : Schema) (rows : List Row) (row : Row) (need : ℕ) (old new : TakerView) : Type 0 where
  pub entries : list_all (enters_freely schema.types rows row) schema.indexes ≡ true
  pub need_is : need ≡ load_need schema rows row
  pub short : old.free < need
  pub same : TellsSame old new

-- What taking a row does to these rows. After want of memory nothing is told of them, and after a fault of the disk the
-- taker may be used no more.
abbrev pub TakesTold : Schema → List Row → Row → TakerView → TakerView → Result Ilk TakeFault → Type 0
TakesTold schema rows row old new (Ok name) = TookRow schema rows row old new name
TakesTold schema rows row old new (Err Twice) = IsTwice schema rows row old new
TakesTold schema rows row old new (Err (NoRoom need)) = HasNoRoom schema rows row need old new
TakesTold schema rows row old new (Err Failed) = ⊤
TakesTold schema rows row old new (Err Memory) = ⊤

-- what isn't told stays untold
abbrev pub Takes : Schema → Row → TakerView → TakerView → Result Ilk TakeFault → Type 0
Takes schema row old new result = MatchOption old.rows (new.rows ≡ None) (λ rows. TakesTold schema rows row old new result)

-- whether a root has this key
abbrev pub has_root : List SegType → List Row → List ℕ → Bool
has_root types rows key = list_any (λ row. (row.code == 1 && same_parent row.parent None) && bytes_eq (row_key types row) key) rows

-- a look at the rows: what is told stays
pub record LooksForRoot (types : List SegType) (key : List ℕ) (old new : TakerView) (found : Bool) : Type 0 where
  pub found_is : IfSome old.rows (λ rows. found ≡ has_root types rows key)
  pub same : TellsSame old new

abbrev pub IsEmpty : Bool → List Row → Type 0
IsEmpty empty rows = IsTrue empty ↔ (rows ≡ [])
