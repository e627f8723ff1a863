-- What a volume held at the last commit: what was kept aside, or what it holds still.
use Rattle.std.specs.Prelude.{ℕ, List, Option, None, Some}
use Rattle.std.proofs.Common.{Vec, Global}
use Rattle.hal_base.specs.declared.place.PartState.{PartState}
use Rattle.data_set_pairs.specs.declared.place.PagePlace.{PagePlace}
use Rattle.data_set_pairs.specs.declared.table.Table.{Table}

abbrev pub last_states : Option (Vec PartState Global) → Vec PartState Global → List PartState
last_states None now = now.items
last_states (Some kept) now = kept.items

abbrev pub last_pages : Option Table → Table → List PagePlace
last_pages None now = now.pages.items
last_pages (Some kept) now = kept.pages.items

abbrev pub last_free : Option Table → Table → List ℕ
last_free None now = now.free.items
last_free (Some kept) now = kept.free.items

-- what a volume holds in memory: the states, and the table of pages
pub record Held : Type 0 where
  pub control : ℕ
  pub indexes : ℕ
  pub states : List PartState
  pub pages : List PagePlace
  pub free : List ℕ

abbrev pub held : ℕ → ℕ → Vec PartState Global → Table → Held
held control indexes states table = record { control = control; indexes = indexes; states = states.items; pages = table.pages.items; free = table.free.items }

-- and what it held at the last commit
abbrev pub last_held : ℕ → ℕ → Option (Vec PartState Global) → Vec PartState Global → Option Table → Table → Held
last_held control indexes kept states kept_table table =
    record { control = control; indexes = indexes; states = last_states kept states; pages = last_pages kept_table table; free = last_free kept_table table }
