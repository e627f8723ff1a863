use Rattle.definition_printer.proofs.Pieces.{split_first, split_last}
use Rattle.definition_printer.proofs.wrap.split_piece.Goals as goal

pub returns-then-len-text-clause-pieces : goal.returns-then-len-text-clause-pieces
returns-then-len-text-clause-pieces c =
    split_first c.args.text.now c.split_at.result.0.now c.split_at.result.1.now c.comma_len-len.result c.comma_len-len.ensures.count c.if-len-text.true c.split_at.ensures.front c.split_at.ensures.back

pub returns-else-len-text-clause-pieces : goal.returns-else-len-text-clause-pieces
returns-else-len-text-clause-pieces c =
    let at = c.split_at-else-len-text in
    split_last c.args.text.now at.result.0.now at.result.1.now c.comma_len-len.result c.comma_len-len.ensures.count c.requires c.if-len-text.false at.ensures.front at.ensures.back
