use Rattle.std.proofs.Common.{◌≡◌, drop}
use Rattle.toml.specs.View.{items_view}
use Rattle.partition_reader.specs.Tables.{parts_from}
use Rattle.partition_reader.proofs.Parts.{with_front}
use Rattle.partition_reader.proofs.table.parts_of_tables.Given as goal

abbrev pub invariant-loop-table : goal.invariant-loop-table
invariant-loop-table l = with_front l.parts (parts_from l.place (items_view (drop l.table-index l.tables))) ≡ parts_from 1 (items_view l.tables)
