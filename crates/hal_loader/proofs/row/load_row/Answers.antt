use Rattle.csv.specs.Records.{fields_of}
use Rattle.hal_loader.proofs.Placings.{row_did}
use Rattle.hal_loader.proofs.row.load_row.Goals as goal

pub returns-in-Ok-clause-did : goal.returns-in-Ok-clause-did
returns-in-Ok-clause-did g c = λ at s.
    row_did c.args.schema.now at (fields_of c.args.fields.now) c.in-Ok.said (g.R.RowTaker.seen c.place_row.new.into) c.place_row.new.path c.place_row.result c.in-Ok.ensures.says (c.place_row.ensures.did at s)
