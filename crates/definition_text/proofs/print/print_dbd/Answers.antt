use Rattle.std.proofs.Common.{arith}
use Rattle.definition_text.proofs.Plain.{plain}
use Rattle.definition_text.proofs.PrintedSchema.{schema_printed}
use Rattle.definition_text.proofs.Rebuilds.{is_definition}
use Rattle.definition_text.proofs.TextRead.{dbd_read_back}
use Rattle.definition_text.proofs.print.print_dbd.Goals as goal

pub returns-clause-reads_back : goal.returns-clause-reads_back
returns-clause-reads_back c rest =
    rw c.in_ok-text.ensures (dbd_read_back c.args.schema.now rest (schema_printed c.args.schema.now (plain c.args.schema.now) (omega arith) (omega arith)))

pub returns-clause-rebuilds : goal.returns-clause-rebuilds
returns-clause-rebuilds c =
    rw c.in_ok-text.ensures (is_definition c.schemas_are_kept.ensures c.args.schema.now (schema_printed c.args.schema.now (plain c.args.schema.now) (omega arith) (omega arith)))
