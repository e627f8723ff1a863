-- Rows of a forest: their names, parents and keys. A forest is one list of rows.
use Rattle.std.specs.Prelude.{ℕ, ◌==◌, Bool, true, false, ◌&&◌, List, Option, None, Some, find, is_none}
use Rattle.std.specs.Option.{option_map_or}
use Rattle.hal_base.specs.declared.place.Ilk.{Ilk}
use Rattle.hal_schema.specs.declared.row.Row.{Row}
use Rattle.hal_schema.specs.declared.schema.SegType.{SegType}
use Rattle.hal_schema.specs.SegType.{level_of, key_in}

abbrev pub same_name : Ilk → Ilk → Bool
same_name a b = a.addr == b.addr && a.part == b.part && a.number == b.number

abbrev pub row_named : List Row → Ilk → Option Row
row_named rows name = find (λ row. same_name row.name name) rows

-- no row has this name
abbrev pub is_new_name : List Row → Ilk → Bool
is_new_name rows name = is_none (row_named rows name)

abbrev pub is_parent : Row → Row → Bool
is_parent above row = option_map_or (same_name above.name) row.parent false

abbrev pub same_parent : Option Ilk → Option Ilk → Bool
same_parent None None = true
same_parent None (Some b) = false
same_parent (Some a) None = false
same_parent (Some a) (Some b) = same_name a b

-- twins are rows of one type under one parent; all roots are twins
abbrev pub are_twins : Row → Row → Bool
are_twins a b = a.code == b.code && same_parent a.parent b.parent

abbrev pub row_level : List SegType → Row → ℕ
row_level types row = level_of types row.code

-- the sequence field, empty where the type has none
abbrev pub row_key : List SegType → Row → List ℕ
row_key types row = key_in types row.code row.content
