-- What is seen of a taker over a list, and the names that it gives: their addresses count up.
use Rattle.std.specs.Prelude.{ℕ, Bool, true, List, Some, Result, nat_le}
use Rattle.std.specs.List.{list_all}
use Rattle.hal_loader.specs.Taker.{TakerView, TakesTold}
use Rattle.hal_loader.specs.declared.taker.TakeFault.{TakeFault}
use Rattle.hal_base.specs.declared.place.Ilk.{Ilk}
use Rattle.hal_schema.specs.declared.row.Row.{Row}
use Rattle.hal_schema.specs.declared.schema.Schema.{Schema}

-- a list tells its rows, and never fails
abbrev pub list_seen : List Row → ℕ → TakerView
list_seen rows free = record { rows = Some rows; free = free; faults = 0; live = true }

-- what taking a row does to a list and its free blocks
abbrev pub ListTakes : Schema → Row → List Row → ℕ → List Row → ℕ → Result Ilk TakeFault → Type 0
ListTakes schema row rows free new left answer = TakesTold schema rows row (list_seen rows free) (list_seen new left) answer

-- no row's address is above this
abbrev pub names_are_up_to : ℕ → List Row → Bool
names_are_up_to named rows = list_all (λ row. nat_le row.name.addr named) rows
