-- Where a load row goes, and what it needs: below the last row of its parent type on the path, behind all its twins.
use Rattle.std.specs.Prelude.{ℕ, ◌+◌, ◌==◌, nat_lt, Bool, false, not, ◌&&◌, ◌||◌, List, [], ◌∷◌, drop, insert, length, Option, option_map, option_and_then, if◌then◌else◌}
use Rattle.std.specs.List.{prefix_len, slice_get}
use Rattle.std.specs.Option.{option_map_or}
use Rattle.std.specs.Ordering.{is_lt}
use Rattle.hal_base.specs.declared.place.Ilk.{Ilk}
use Rattle.hal_schema.specs.declared.row.Row.{Row}
use Rattle.hal_schema.specs.declared.schema.PartDef.{PartDef}
use Rattle.hal_schema.specs.declared.schema.Schema.{Schema}
use Rattle.hal_schema.specs.declared.schema.SegType.{SegType}
use Rattle.hal_schema.specs.Forest.{twin_cmp}
use Rattle.hal_schema.specs.Insertion.{is_lower_child, new_path, through_last}
use Rattle.hal_schema.specs.Roots.{partition_of}
use Rattle.hal_schema.specs.Row.{is_parent, are_twins, row_level, row_key}
use Rattle.hal_schema.specs.SegType.{parent_code}

-- the name of a row that isn't there yet; no test of it looks at this name
abbrev pub no_name : Ilk
no_name = record { addr = 0; part = 0; number = 0 }

abbrev pub coming : Option Ilk → ℕ → List ℕ → Row
coming parent code content = record { name = no_name; code = code; parent = parent; content = content }

-- the row, once it has its name
abbrev pub with_name : Row → Ilk → Row
with_name row name = record { name = name; code = row.code; parent = row.parent; content = row.content }

abbrev pub is_of : Option ℕ → ℕ → Bool
is_of wanted code = option_map_or (λ c. c == code) wanted false

-- a path upwards, as it is from its first row of this type on; empty where none of them is. Paths here go up: the row
-- itself, its parent, and so on to its root.
abbrev pub path_from : {X : Type 0} → (X → ℕ) → Option ℕ → List X → List X
path_from code wanted [] = []
path_from code wanted (row ∷ above) = if is_of wanted (code row) then row ∷ above else path_from code wanted above

-- the path upwards from the parent of a row of this type: the last of its parent type on the path. A root has none.
abbrev pub parent_path : List SegType → List Row → ℕ → List Row
parent_path types path code = path_from (λ row. row.code) (parent_code types code) path

abbrev pub first_name : List Row → Option Ilk
first_name path = option_map (λ row. row.name) (slice_get path 0)

-- roots of PHDAM go by their keys, all other rows behind their twins
abbrev pub goes_by_key : Schema → Row → Bool
goes_by_key schema row = schema.phdam && row.code == 1

-- whether a row is the parent of a load row, or a child of that parent of lower code, or a twin that it goes behind
abbrev pub loads_behind : Schema → Row → Row → Bool
loads_behind schema new row =
    is_parent row new || is_lower_child new row || (are_twins row new && (not (goes_by_key schema new) || is_lt (twin_cmp schema row new)))

-- directly after the last of these, and the rows below it which are deeper than the new one; at the front where there is none
abbrev pub load_place : Schema → List Row → Row → ℕ
load_place schema rows new =
    let after = through_last (loads_behind schema new) rows in
    after + prefix_len (λ row. nat_lt (row_level schema.types new) (row_level schema.types row)) (drop after rows)

abbrev pub with_loaded : Schema → List Row → Row → List Row
with_loaded schema rows new = insert rows (load_place schema rows new) new

-- FRSPC: whether the partition of a root key leaves blocks empty
abbrev pub leaves_blocks : Schema → List ℕ → Bool
leaves_blocks schema key = option_map_or (λ (part : PartDef). not (part.fbff == 0)) (option_and_then (slice_get schema.parts) (partition_of schema key)) false

-- how many free blocks a load row may take: as an ISRT, and one more where its partition leaves blocks empty
abbrev pub load_need : Schema → List Row → Row → ℕ
load_need schema rows new =
    2 + length schema.indexes
    + (if option_map_or (λ root. leaves_blocks schema (row_key schema.types root)) (slice_get (new_path schema.types rows new) 0) false then 1 else 0)
