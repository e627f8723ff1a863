use Rattle.std.proofs.Common.{ap, sym, ◌∙◌}
use Rattle.std.specs.Prelude.{option_and_then}
use Rattle.hal_schema.specs.Raw.{code_of}
use Rattle.hal_schema.proofs.RawTypes.{raw_parent-at}
use Rattle.hal_schema.proofs.rules.parents.parent_code.Goals as goal

pub returns-in-None : goal.returns-in-None
returns-in-None c = sym (raw_parent-at c.args.types.now c.args.code _ c.requires.above c.requires.known ∙ ap (option_and_then (code_of c.args.types.now)) c.in-None.is)

pub returns-in-Some : goal.returns-in-Some
returns-in-Some c =
    c.code_of.ensures.code ∙ sym (raw_parent-at c.args.types.now c.args.code _ c.requires.above c.requires.known ∙ ap (option_and_then (code_of c.args.types.now)) c.in-Some.is)
