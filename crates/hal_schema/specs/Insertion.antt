-- Where a new row is inserted. DBD: RULES=(,FIRST) or (,LAST).
use Rattle.std.specs.Prelude.{ℕ, ◌+◌, ◌-◌, ◌==◌, nat_lt, Bool, true, false, ◌&&◌, ◌||◌, not, List, [], ◌∷◌, ◌++◌, length, drop, is_none, filter}
use Rattle.std.specs.Prelude.{find, insert, if◌then◌else◌}
use Rattle.std.specs.List.{prefix_len, suffix_len, list_all}
use Rattle.std.specs.Option.{option_map_or}
use Rattle.std.specs.declared.cmp.Ordering.{Ordering}
use Rattle.std.specs.declared.cmp.Ordering.TheVariants.{Less, Equal, Greater}
use Rattle.std.specs.Ordering.{is_eq}
use Rattle.hal_schema.specs.declared.row.Row.{Row}
use Rattle.hal_schema.specs.declared.schema.IndexDef.{IndexDef}
use Rattle.hal_schema.specs.declared.schema.Schema.{Schema}
use Rattle.hal_schema.specs.declared.schema.SegType.{SegType}
use Rattle.hal_schema.specs.SegType.{type_of, is_parent_code}
use Rattle.hal_schema.specs.Row.{same_parent, is_parent, are_twins, is_new_name, row_level}
use Rattle.hal_schema.specs.Paths.{paths_of, concatenated_key}
use Rattle.hal_schema.specs.Entry.{entry_key, entries_of, is_taken}
use Rattle.hal_schema.specs.Forest.{has_length, has_unique_key, is_selected, twin_cmp}

-- whether a twin of this comparison with the new row must stand before it: one of equal key under LAST
abbrev pub goes_before : Bool → Ordering → Bool
goes_before first Less = true
goes_before first Equal = not first
goes_before first Greater = false

abbrev pub is_first : Schema → ℕ → Bool
is_first schema code = option_map_or (λ t. t.first) (type_of schema.types code) false

-- whether a row is a twin that must stand before the new one
abbrev pub is_twin_before : Schema → Row → Row → Bool
is_twin_before schema new row = are_twins row new && goes_before (is_first schema new.code) (twin_cmp schema row new)

abbrev pub twins_before : Schema → List Row → Row → List Row
twins_before schema rows new = filter (is_twin_before schema new) rows

-- whether a row is a child of the new row's parent, and of lower code
abbrev pub is_lower_child : Row → Row → Bool
is_lower_child new row = same_parent row.parent new.parent && nat_lt row.code new.code

-- whether a row is the new row's parent, or a child of that parent of lower code, or a twin that must stand before the new row
abbrev pub stands_before : Schema → Row → Row → Bool
stands_before schema new row = is_parent row new || is_lower_child new row || is_twin_before schema new row

-- how many rows there are up to the last one that passes, and with it
abbrev pub through_last : (Row → Bool) → List Row → ℕ
through_last test rows = length rows - suffix_len (λ row. not (test row)) rows

-- directly after the last row that must stand before the new one, and the rows below that row which are deeper than the new one; at the front where there is none
abbrev pub insertion_place : Schema → List Row → Row → ℕ
insertion_place schema rows new =
    let after = through_last (stands_before schema new) rows in
    after + prefix_len (λ row. nat_lt (row_level schema.types new) (row_level schema.types row)) (drop after rows)

abbrev pub inserted : Schema → List Row → Row → List Row
inserted schema rows new = insert rows (insertion_place schema rows new) new

-- the path of a new row: that of its parent, and itself
abbrev pub new_path : List SegType → List Row → Row → List Row
new_path types rows new = option_map_or (λ p. p.0) (find (λ p. is_parent p.1 new) (paths_of types rows)) [] ++ new ∷ []

-- a new root has no parent, and any other new row one of the parent type among the rows
abbrev pub has_parent_in : List SegType → List Row → Row → Bool
has_parent_in types rows new =
    if new.code == 1 then is_none new.parent else option_map_or (λ above. is_parent_code types above.code new.code) (find (λ row. is_parent row new) rows) false

-- no twin has the new row's unique key
abbrev pub has_free_key : Schema → List Row → Row → Bool
has_free_key schema rows new = not (has_unique_key schema.types new.code) || list_all (λ row. not (are_twins row new && is_eq (twin_cmp schema row new))) rows

-- in this index the entry of a new row, if it gets one, has a key that no entry has
abbrev pub enters_freely : List SegType → List Row → Row → IndexDef → Bool
enters_freely types rows new index =
    not (new.code == index.source) || option_map_or (λ key. not (is_taken key (entries_of types index rows))) (entry_key index new.content (concatenated_key types (new_path types rows new))) true

-- what a new row must be, so that it may be inserted
abbrev pub may_be_inserted : Schema → List Row → Row → Bool
may_be_inserted schema rows new =
    has_length schema.types new && is_new_name rows new.name && has_parent_in schema.types rows new && has_free_key schema rows new && is_selected schema new
    && list_all (enters_freely schema.types rows new) schema.indexes
