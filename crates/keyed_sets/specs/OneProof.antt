-- That a set stands for its pages has one proof, so that a type may keep it.
use Rattle.std.specs.Prelude.{ℕ, List}
use Rattle.std.specs.Coded.{le_prop, Coded-set, codes}
use Rattle.hal_base.specs.ShelfCalls.{ShelfView}
use Rattle.keyed_sets.specs.declared.row.RowShape.{RowShape}
use Rattle.keyed_sets.specs.declared.set.KeyedSet.{KeyedSet}
use Rattle.keyed_sets.specs.Rule.{IsRowPage, KeepsRule}
use Rattle.keyed_sets.specs.Calls.{IsOpened}

row_page : (shape : RowShape) (page : List ℕ) → IsProp (IsRowPage shape page)
row_page shape page = hlevel (le_prop, Coded-set, codes)

rule : (shape : RowShape) (pages : List (List ℕ)) → IsProp (KeepsRule shape pages)
rule shape pages = hlevel (le_prop, Coded-set, codes, row_page)

pub IsOpened-prop : (set : KeyedSet) (seen : ShelfView) → IsProp (IsOpened set seen)
IsOpened-prop set seen = hlevel (le_prop, Coded-set, codes, rule)
