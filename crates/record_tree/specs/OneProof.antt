-- That a side of records is open has one proof, so that a type may keep it.
use Rattle.std.specs.Coded.{Coded-set, codes}
use Rattle.hal_base.specs.ShelfCalls.{ShelfView}
use Rattle.free_space.specs.OneProof.{StandsForSide-prop}
use Rattle.keyed_sets.specs.OneProof.{IsOpened-prop}
use Rattle.record_walk.specs.OneProof.{IsSide-prop}
use Rattle.record_tree.specs.declared.records.Records.{Records}
use Rattle.record_tree.specs.Standing.{cells_seen, rows_seen, IsOfSide, StandsForRecords}

of_side : (records : Records) → IsProp (IsOfSide records)
of_side records = hlevel (Coded-set, codes)

pub StandsForRecords-prop : (records : Records) (shelf : ShelfView) → IsProp (StandsForRecords records shelf)
StandsForRecords-prop records shelf =
    hlevel (
      Coded-set,
      codes,
      of_side records,
      StandsForSide-prop records.cells shelf,
      IsOpened-prop records.roots shelf,
      IsSide-prop records.schema records.place (cells_seen records shelf) (rows_seen records shelf),
    )
