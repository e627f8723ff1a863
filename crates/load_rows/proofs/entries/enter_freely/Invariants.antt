use Rattle.std.proofs.Common.{◌≡◌, drop}
use Rattle.std.specs.List.{list_all}
use Rattle.hal_schema.specs.Insertion.{enters_freely}
use Rattle.load_rows.proofs.entries.enter_freely.Given as goal

abbrev pub invariant-loop-index : goal.invariant-loop-index
invariant-loop-index l = list_all (enters_freely l.schema.types l.rows l.new) l.schema.indexes ≡ list_all (enters_freely l.schema.types l.rows l.new) (drop l.index-index l.index-items)
