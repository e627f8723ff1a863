-- Names by their addresses, which count up where a list gives them.
use Rattle.std.specs.Prelude.{ℕ, nat_le, Bool, List}
use Rattle.std.specs.List.{list_all}
use Rattle.hal_schema.specs.declared.row.Row.{Row}

-- no row's address is above this
abbrev pub names_are_up_to : ℕ → List Row → Bool
names_are_up_to named rows = list_all (λ row. nat_le row.name.addr named) rows
