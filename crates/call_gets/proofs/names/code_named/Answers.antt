use Rattle.std.proofs.Common.{◌+◌, position, ap, ◌∙◌}
use Rattle.std.specs.Option.{option_map}
use Rattle.std.specs.Str.{bytes_eq}
use Rattle.hal_schema.specs.declared.schema.SegType.{SegType}
use Rattle.call_gets.proofs.names.code_named.Goals as goal

pub returns-in-Some : goal.returns-in-Some
returns-in-Some c = ap (option_map (λ place. place + 1)) (c.in-Some.ensures.place ∙ ap (position (λ (t : SegType). bytes_eq t.name c.args.name)) c.as_slice.ensures)

pub returns-in-None : goal.returns-in-None
returns-in-None c = ap (option_map (λ place. place + 1)) (c.in-None.ensures.place ∙ ap (position (λ (t : SegType). bytes_eq t.name c.args.name)) c.as_slice.ensures)
