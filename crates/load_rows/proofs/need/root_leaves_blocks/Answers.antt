use Rattle.std.proofs.Common.{◌∙◌, Option, ap}
use Rattle.std.specs.Prelude.{false}
use Rattle.std.specs.Option.{option_map_or}
use Rattle.hal_loader.specs.Placing.{leaves_blocks}
use Rattle.hal_schema.specs.declared.row.Row.{Row}
use Rattle.hal_schema.specs.Row.{row_key}
use Rattle.load_rows.proofs.Steps.{first_of_map}
use Rattle.load_rows.proofs.need.root_leaves_blocks.Goals as goal

pub returns-in-Some : goal.returns-in-Some
returns-in-Some c =
    c.leaves_blocks.ensures ∙ ap (leaves_blocks c.args.schema.now) c.row_key.ensures
    ∙ ap (λ (o : Option Row). option_map_or (λ root. leaves_blocks c.args.schema.now (row_key c.args.schema.now.types root)) o false) (first_of_map c.args.path.now c.in-Some.root.now c.in-Some.ensures.value)
