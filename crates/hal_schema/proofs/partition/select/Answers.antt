use Rattle.std.proofs.Common.{position, ap, ◌∙◌}
use Rattle.std.specs.Ordering.{is_le}
use Rattle.hal_schema.specs.declared.schema.PartDef.{PartDef}
use Rattle.hal_schema.specs.Keys.{key_cmp}
use Rattle.hal_schema.proofs.partition.select.Goals as goal

pub returns-in-Some : goal.returns-in-Some
returns-in-Some c = c.in-Some.ensures.place ∙ ap (position (λ (part : PartDef). is_le (key_cmp c.args.key.now part.high))) c.as_slice.ensures

pub returns-in-None : goal.returns-in-None
returns-in-None c = c.in-None.ensures.place ∙ ap (position (λ (part : PartDef). is_le (key_cmp c.args.key.now part.high))) c.as_slice.ensures
