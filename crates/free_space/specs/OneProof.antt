-- That a store stands for its data set, and that a side is open, has one proof.
use Rattle.std.specs.Prelude.{ℕ, List}
use Rattle.std.specs.Coded.{le_prop, Coded-set, codes}
use Rattle.hal_base.specs.declared.place.Shape.{Shape}
use Rattle.hal_base.specs.ShelfCalls.{ShelfView}
use Rattle.segment_blocks.specs.OneProof.{IsTiling-prop}
use Rattle.segment_blocks.specs.declared.space.Space.{Space}
use Rattle.free_space.specs.declared.store.CellStore.{CellStore}
use Rattle.free_space.specs.Store.{Knows, StandsFor}
use Rattle.free_space.specs.Side.{IsFirst}
use Rattle.free_space.specs.SideCalls.{IsLetter, StandsForSide}
use Rattle.free_space.specs.declared.side.SideCells.{SideCells}
use Rattle.hal_base.specs.declared.pages.SetId.{SetId}

knows : (shapes : List Shape) (spaces : List Space) (pages : List (List ℕ)) → IsProp (Knows shapes spaces pages)
knows shapes spaces pages = hlevel (Coded-set, codes, IsTiling-prop)

pub StandsFor-prop : (store : CellStore) (shelf : ShelfView) → IsProp (StandsFor store shelf)
StandsFor-prop store shelf = hlevel (Coded-set, codes, knows)

letter : (side : SideCells) (place : ℕ) (store : CellStore) (shelf : ShelfView) → IsProp (IsLetter side place store shelf)
letter side place store shelf = hlevel (Coded-set, codes, StandsFor-prop store shelf)

first : (set : SetId) → IsProp (IsFirst set)
first set = hlevel (le_prop, Coded-set, codes)

pub StandsForSide-prop : (side : SideCells) (shelf : ShelfView) → IsProp (StandsForSide side shelf)
StandsForSide-prop side shelf = hlevel (le_prop, Coded-set, codes, first side.first, letter)
