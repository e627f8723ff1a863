use Rattle.partition_reader.proofs.Named.{read_named}
use Rattle.partition_reader.proofs.file.read_partitions.Goals as goal

pub returns-clause-named : goal.returns-clause-named
returns-clause-named c = read_named c.args.text.now c.read_text.result c.read_text.ensures
