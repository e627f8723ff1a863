use Rattle.std.proofs.Common.{sym, ap, ◌∙◌}
use Rattle.hal_schema.proofs.Ancestry.{parent_code-read}
use Rattle.hal_schema.proofs.types.parent_code.Goals as goal

pub returns : goal.returns
returns c =
    ap (λ t. t.parent) (sym c.index-types-code.is)
    ∙ sym (parent_code-read c.args.types.now c.args.code c.index-types-code.result c.requires.above c.requires.known c.index-types-code.is)
