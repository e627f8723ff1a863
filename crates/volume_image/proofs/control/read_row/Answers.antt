use Rattle.volume_image.proofs.RowRoom.{none_found, none_lawful, one_lawful}
use Rattle.volume_image.proofs.control.read_row.Goals as goal

pub returns-in_default-clause-none : goal.returns-in_default-clause-none
returns-in_default-clause-none c = none_found c.args.schema.now c.args.place c.args.row.now c.args.schema.now.kept_parts (λ s room is. let f = c.in_ok-state.ensures.found s room is in cc)

pub returns-else-is_lawful-clause-none : goal.returns-else-is_lawful-clause-none
returns-else-is_lawful-clause-none c =
    none_lawful c.args.schema.now c.args.place c.args.row.now c.in-Some.state c.is_lawful.result c.args.schema.now.kept_parts (λ s room is. let f = c.in_ok-state.ensures.found s room is in cc) c.is_lawful.ensures.lawful c.if-is_lawful.false

pub returns-then-is_lawful-clause-one : goal.returns-then-is_lawful-clause-one
returns-then-is_lawful-clause-one c =
    one_lawful c.args.schema.now c.args.place c.args.row.now c.in-Some.state c.args.schema.now.kept_parts (λ s room is. let f = c.in_ok-state.ensures.found s room is in cc)
