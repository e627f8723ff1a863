use Rattle.std.proofs.Common.{false}
use Rattle.segment_blocks.proofs.Among.{among_is, among_found}
use Rattle.segment_blocks.proofs.laws.cells_by_offset.Goals as goal

pub returns-clause-given : goal.returns-clause-given
returns-clause-given c = λ shapes block tiles place offset cell t. among_is shapes 16 false tiles place offset cell t.tiled

pub returns-clause-found : goal.returns-clause-found
returns-clause-found c = among_found
