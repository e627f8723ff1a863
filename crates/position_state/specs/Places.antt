-- Where the elements of the plain view stand among the rows, in hierarchic sequence.
use Rattle.std.specs.Prelude.{ℕ, ◌+◌, ◌==◌, nat_lt, Bool, false, ◌&&◌, List, [], length, min, take, Option, None}
use Rattle.std.specs.List.{list_all, position_or_len}
use Rattle.std.specs.Option.{option_map_or}
use Rattle.std.specs.Str.{bytes_eq}
use Rattle.hal_schema.specs.declared.row.Row.{Row}
use Rattle.hal_schema.specs.declared.schema.KeyField.{KeyField}
use Rattle.hal_schema.specs.declared.schema.SegType.{SegType}
use Rattle.hal_schema.specs.Paths.{path_after, path_with}
use Rattle.hal_schema.specs.Row.{same_name, row_level}
use Rattle.hal_schema.specs.SegType.{key_in, portion}
use Rattle.position_state.specs.declared.session.Anchor.{Anchor}
use Rattle.position_state.specs.declared.session.Anchor.TheVariants.{Front, At}
use Rattle.position_state.specs.View.{same_entry}

-- whether a place of the plain view is that of a row
abbrev pub is_of_row : Anchor → Row → Bool
is_of_row Front row = false
is_of_row (At name root entry) row = same_name name row.name && same_entry entry None

-- how many rows stand before a place: none before the front, and all before a place of no row
abbrev pub rows_before : Anchor → List Row → ℕ
rows_before Front rows = 0
rows_before (At name root entry) rows = position_or_len (is_of_row (At name root entry)) rows

-- and how many with the row at the place
abbrev pub rows_through : Anchor → List Row → ℕ
rows_through Front rows = 0
rows_through (At name root entry) rows = min (position_or_len (is_of_row (At name root entry)) rows + 1) (length rows)

-- the bytes of a sequence field, none where there is no such field
abbrev pub portion_of : Option KeyField → List ℕ → List ℕ
portion_of field content = option_map_or (λ k. portion k.start k.bytes content) field []

-- whether a row is a root, and has this key
abbrev pub is_root_of : List SegType → List ℕ → Row → Bool
is_root_of types key row = row.code == 1 && bytes_eq (key_in types 1 row.content) key

-- each row is of a type that the schema has, and so on a level from 1 on
abbrev pub have_levels : List SegType → List Row → Bool
have_levels types rows = list_all (λ row. nat_lt 0 (row_level types row)) rows

-- the path of a row that stands behind so many rows of a list
abbrev pub path_behind : List SegType → List Row → ℕ → Row → List Row
path_behind types rows count row = path_with (row_level types) (path_after (row_level types) [] (take count rows)) row
