-- The partitions of a volume together: the list that its sides hold, and the rows of its indexes.
use Rattle.std.specs.Prelude.{◌≡◌, ℕ, ◌+◌, ◌==◌, nat_le, Bool, true, false, not, ◌&&◌, if◌then◌else◌, List, [], ◌∷◌, ◌++◌, map, filter, flat_map}
use Rattle.std.specs.List.{list_all, list_any, slice_get, AllByRecursion}
use Rattle.std.specs.Option.{option_map_or}
use Rattle.std.specs.Str.{bytes_eq}
use Rattle.hal_base.specs.declared.place.PartState.{PartState}
use Rattle.hal_schema.specs.declared.row.Row.{Row}
use Rattle.hal_schema.specs.declared.schema.IndexDef.{IndexDef}
use Rattle.hal_schema.specs.declared.schema.Schema.{Schema}
use Rattle.hal_schema.specs.Entry.{Entry, entries_of}
use Rattle.hal_schema.specs.Forest.{all_pairs, entries_differ, is_forest}
use Rattle.hal_schema.specs.Roots.{partition_place}
use Rattle.hal_schema.specs.Row.{same_name}
use Rattle.volume_rules.specs.View.{Home, Homed, Segment, View, Stands, is_moving}
use Rattle.volume_rules.specs.Target.{Eps, Pointer}
use Rattle.volume_rules.specs.Rules.{KeepsRules}

-- a row of an index: its key, its pointer, and the key of the root above its target
pub record IndexRow : Type 0 where
  pub key : List ℕ
  pub eps : Eps
  pub root : List ℕ

-- the partitions in the order of their high keys, and the indexes in that of the schema
pub record Volume : Type 0 where
  pub parts : List View
  pub indexes : List (List IndexRow)

-- the rows of a partition: those of the output, and behind them those of the input
abbrev pub walked : View → List Homed
walked view = (if is_moving view.state then view.rows (view.state.number + 1) else []) ++ view.rows view.state.number

abbrev pub forest_of : Volume → List Row
forest_of volume = flat_map (λ view. map (λ r. r.row) (walked view)) volume.parts

-- ---- rule 5: the rows of the sides are exactly the segments that stand

abbrev pub is_segment_of : Row → Segment → Bool
is_segment_of row s = not s.copied && s.code == row.code && same_name s.name row.name && bytes_eq s.content row.content

abbrev pub stands_in : View → ℕ → Homed → Bool
stands_in view number r = option_map_or (is_segment_of r.row) (view.segments (record { number = number; addr = r.addr })) false

pub record RowsStand (view : View) : Type 0 where
  pub stand : (number : ℕ) → list_all (stands_in view number) (view.rows number) ≡ true
  pub met : (home : Home) (s : Segment) → Stands view home s → list_any (λ r. r.addr == home.addr) (view.rows home.number) ≡ true
  pub once : (number : ℕ) → all_pairs (λ a b. not (a.addr == b.addr)) (view.rows number) ≡ true

-- ---- rule 8: the rows of the indexes are exactly the entries of the list, no key twice, and their pointers lead home

abbrev pub entry_in : IndexRow → Entry
entry_in row = record { key = row.key; target = row.eps.name; root = row.root }

-- the partition of a pointer is that of its root's key
abbrev pub is_in_part : Schema → IndexRow → Bool
is_in_part schema row = option_map_or (λ part. part.number == row.eps.part) (slice_get schema.parts (partition_place schema row.root)) false

pub record KeepsEntries (schema : Schema) (volume : Volume) : Type 0 where
  pub those : map (λ rows. map entry_in rows) volume.indexes ≡ map (λ index. entries_of schema.types index (forest_of volume)) schema.indexes
  pub apart : list_all (entries_differ schema.types (forest_of volume)) schema.indexes ≡ true
  pub parts : list_all (λ rows. list_all (is_in_part schema) rows) volume.indexes ≡ true

abbrev pub pointer_of : ℕ → IndexRow → Pointer
pointer_of code row = record { eps = row.eps; root = row.root; code = code }

abbrev pub pointers_of : List IndexDef → List (List IndexRow) → List Pointer
pointers_of [] rows = []
pointers_of (index ∷ indexes) [] = []
pointers_of (index ∷ indexes) (rows ∷ more) = map (pointer_of index.target) rows ++ pointers_of indexes more

-- the pointers that lead into the partition of a number: a list beside its view, so that what happens in one partition touches no pointer into another
abbrev pub pointers_into : Schema → Volume → ℕ → List Pointer
pointers_into schema volume number = filter (λ p. p.eps.part == number) (pointers_of schema.indexes volume.indexes)

-- whether an index has this target
abbrev pub is_target_of : Schema → ℕ → Bool
is_target_of schema code = list_any (λ index. index.target == code) schema.indexes

-- of rule 1 the numbers of the partitions, and the rules 5 to 10 as far as no walk is needed; the walk makes the list of the sides a forest
pub record KeepsVolume (schema : Schema) (volume : Volume) : Type 0 where
  pub defined : map (λ view. view.part) volume.parts ≡ schema.parts
  pub numbered : list_all (λ view. view.state.part == view.part.number && nat_le 1 view.state.number) volume.parts ≡ true
  pub rows : AllByRecursion RowsStand volume.parts
  pub forest : is_forest schema (forest_of volume) ≡ true
  pub entries : KeepsEntries schema volume
  pub rules : AllByRecursion (λ view. KeepsRules schema.types (is_target_of schema) view (pointers_into schema volume view.state.part)) volume.parts

-- such a volume holds a list and the states of its partitions
pub record Holds (schema : Schema) (volume : Volume) (rows : List Row) (states : List PartState) : Type 0 where
  pub sound : KeepsVolume schema volume
  pub list : forest_of volume ≡ rows
  pub parts : map (λ view. view.state) volume.parts ≡ states

-- such a volume holds one list and one list of states at the most
abbrev pub HoldsOne : Type 0
HoldsOne = (schema : Schema) (volume : Volume) (rows other : List Row) (states others : List PartState) → Holds schema volume rows states
    → Holds schema volume other others → (rows ≡ other) × (states ≡ others)

-- and these are a function of what stands: of the rows of the live sides and of the states, so that two volumes which have them alike hold the same
abbrev pub AlikeHoldTheSame : Type 0
AlikeHoldTheSame = (schema : Schema) (volume other : Volume) (rows : List Row) (states : List PartState) → Holds schema volume rows states
    → KeepsVolume schema other → map walked other.parts ≡ map walked volume.parts → map (λ view. view.state) other.parts ≡ map (λ view. view.state) volume.parts
    → Holds schema other rows states
