use Rattle.definition_text.proofs.ReadBack.{partitions_read_back}
use Rattle.definition_text.proofs.Rebuilt.{parts_rebuilt}
use Rattle.definition_text.proofs.print.print_partitions.Goals as goal

pub returns-clause-reads_back : goal.returns-clause-reads_back
returns-clause-reads_back c = rw c.in_ok-text.ensures (partitions_read_back c.schemas_are_kept.ensures c.args.schema.now)

pub returns-clause-rebuilds : goal.returns-clause-rebuilds
returns-clause-rebuilds c dbd = parts_rebuilt dbd c.args.schema.now.types c.args.schema.now c.args.schema.now.highs
