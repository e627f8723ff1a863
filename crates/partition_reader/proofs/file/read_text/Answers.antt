use Rattle.partition_reader.proofs.Whole.{no_text, a_table}
use Rattle.partition_reader.proofs.file.read_text.Goals as goal

pub returns-in_default : goal.returns-in_default
returns-in_default c = no_text c.args.text.now c.in_default.ensures.cases.0

pub returns-in-Ok-table_from_str : goal.returns-in-Ok-table_from_str
returns-in-Ok-table_from_str c =
    let (same, utf8) = c.in-Ok.ensures.cases in
    rw (a_table c.args.text.now _ utf8 (rw same at c.in-Ok-table_from_str.ensures.ok)) c.parts_of.ensures
