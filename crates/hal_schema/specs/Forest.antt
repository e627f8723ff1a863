-- Well-formed forests, as a test in five parts: the rows stand in hierarchic sequence.
use Rattle.std.specs.Prelude.{ℕ, ◌==◌, nat_le, Bool, true, false, not, ◌&&◌, ◌||◌, List, [], ◌∷◌, length, Option, None, Some, is_none, is_some}
use Rattle.std.specs.Prelude.{option_and_then, if◌then◌else◌}
use Rattle.std.specs.List.{list_all}
use Rattle.std.specs.Option.{option_map_or}
use Rattle.std.specs.Str.{bytes_eq}
use Rattle.std.specs.declared.cmp.Ordering.{Ordering}
use Rattle.std.specs.Ordering.{is_le, is_lt}
use Rattle.hal_schema.specs.declared.row.Row.{Row}
use Rattle.hal_schema.specs.declared.schema.Schema.{Schema}
use Rattle.hal_schema.specs.declared.schema.SegType.{SegType}
use Rattle.hal_schema.specs.declared.schema.IndexDef.{IndexDef}
use Rattle.hal_schema.specs.SegType.{type_of, is_parent_code}
use Rattle.hal_schema.specs.Row.{same_name, same_parent, is_parent, are_twins, row_key}
use Rattle.hal_schema.specs.Paths.{paths_of}
use Rattle.hal_schema.specs.Roots.{root_cmp, partition_of}
use Rattle.hal_schema.specs.Keys.{key_cmp}
use Rattle.hal_schema.specs.Entry.{Entry, entries_of}

-- the test passes each two of the list, the one that stands first as its first
abbrev pub all_pairs : {X : Type 0} → (X → X → Bool) → List X → Bool
all_pairs test [] = true
all_pairs test (x ∷ xs) = list_all (test x) xs && all_pairs test xs

-- the content has the length of the row's type
abbrev pub has_length : List SegType → Row → Bool
has_length types row = option_map_or (λ t. length row.content == t.bytes) (type_of types row.code) false

abbrev pub names_apart : Row → Row → Bool
names_apart a b = not (same_name a.name b.name)

-- 1: names differ, and each row has its type's length
abbrev pub rows_are_named : List SegType → List Row → Bool
rows_are_named types rows = all_pairs names_apart rows && list_all (has_length types) rows

-- a root is a child of no row, and any other row of one that its name and its type say
abbrev pub is_child_of : List SegType → Option Row → Row → Bool
is_child_of types None row = row.code == 1 && is_none row.parent
is_child_of types (Some above) row = is_parent above row && is_parent_code types above.code row.code

-- each row of a path is a child of the one before it
abbrev pub is_path : List SegType → Option Row → List Row → Bool
is_path types above [] = true
is_path types above (row ∷ path) = is_child_of types above row && is_path types (Some row) path

-- 2: the last earlier row of a higher level is the parent, so that each path by levels is one by parents
abbrev pub rows_are_below_parents : List SegType → List Row → Bool
rows_are_below_parents types rows = list_all (λ p. is_path types None p.0) (paths_of types rows)

-- of two rows of one parent the lower code stands first
abbrev pub in_type_order : Row → Row → Bool
in_type_order a b = not (same_parent a.parent b.parent) || nat_le a.code b.code

-- 3: the children of a parent stand by their types
abbrev pub types_rise : List Row → Bool
types_rise rows = all_pairs in_type_order rows

-- how two twins compare: roots by the root order, others by their sequence fields
abbrev pub twin_cmp : Schema → Row → Row → Ordering
twin_cmp schema a b =
    if a.code == 1 then root_cmp schema (row_key schema.types a) (row_key schema.types b) else key_cmp (row_key schema.types a) (row_key schema.types b)

abbrev pub has_unique_key : List SegType → ℕ → Bool
has_unique_key types code = option_map_or (λ k. k.unique) (option_and_then (λ t. t.key) (type_of types code)) false

-- whether a twin may stand behind another: unique keys rise, and other keys never fall
abbrev pub may_follow : Schema → Row → Row → Bool
may_follow schema a b = if has_unique_key schema.types a.code then is_lt (twin_cmp schema a b) else is_le (twin_cmp schema a b)

abbrev pub in_twin_order : Schema → Row → Row → Bool
in_twin_order schema a b = not (are_twins a b) || may_follow schema a b

-- 4: twins stand by their keys
abbrev pub twins_rise : Schema → List Row → Bool
twins_rise schema rows = all_pairs (in_twin_order schema) rows

-- no root key is above every high key
abbrev pub is_selected : Schema → Row → Bool
is_selected schema row = not (row.code == 1) || is_some (partition_of schema (row_key schema.types row))

abbrev pub keys_apart : Entry → Entry → Bool
keys_apart a b = not (bytes_eq a.key b.key)

abbrev pub entries_differ : List SegType → List Row → IndexDef → Bool
entries_differ types rows index = all_pairs keys_apart (entries_of types index rows)

-- 5: each root has a partition, and no index has a key twice
abbrev pub keys_are_placed : Schema → List Row → Bool
keys_are_placed schema rows = list_all (is_selected schema) rows && list_all (entries_differ schema.types rows) schema.indexes

abbrev pub is_forest : Schema → List Row → Bool
is_forest schema rows =
    rows_are_named schema.types rows && rows_are_below_parents schema.types rows && types_rise rows && twins_rise schema rows && keys_are_placed schema rows
