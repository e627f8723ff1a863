-- The indirect list of a partition: where the cell of a segment is now, by the segment's name and its type.
use Rattle.std.specs.Prelude.{◌≡◌, ◌==◌, ◌&&◌, ℕ, Bool, List, Option, IfSome}
use Rattle.std.specs.Option.{option_map}
use Rattle.hal_base.specs.declared.pages.SetId.{SetId}
use Rattle.hal_base.specs.declared.place.Ilk.{Ilk}
use Rattle.hal_base.specs.ShelfCalls.{ShelfView}
use Rattle.hal_schema.specs.Row.{same_name}
use Rattle.keyed_sets.specs.declared.row.RowShape.{RowShape}
use Rattle.keyed_sets.specs.Layout.{Row}
use Rattle.keyed_sets.specs.Map.{lookup, rows_of}
use Rattle.eps_pointers.specs.declared.pointer.Ile.{Ile}
use Rattle.eps_pointers.specs.Layout.{list_key, ile_bytes, ile_in}

-- its data set: letter L (76), whose number is 0 through all reorganizations
abbrev pub list_set : ℕ → SetId
list_set part = record { part = part; number = 0; letter = 76 }

abbrev pub list_shape : RowShape
list_shape = record { key = 9; body = 6 }

abbrev pub list_row : Ilk → ℕ → Ile → Row
list_row name code ile = (list_key name code, ile_bytes ile)

-- the entry under a name and a code, of these rows
abbrev pub entry_in : List Row → Ilk → ℕ → Option Ile
entry_in rows name code = option_map ile_in (lookup (list_key name code) rows)

-- the entry that is found, where the list is told
abbrev pub FindsEntry : SetId → ShelfView → Ilk → ℕ → Option Ile → Type 0
FindsEntry set seen name code found = IfSome (seen.pages set) (λ pages. found ≡ entry_in (rows_of list_shape pages) name code)

-- one name and one code
abbrev pub same_key : Ilk → ℕ → Ilk → ℕ → Bool
same_key a m b n = same_name a b && m == n
