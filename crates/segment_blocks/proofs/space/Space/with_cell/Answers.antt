use Rattle.segment_blocks.proofs.Spaces.{cell_more}
use Rattle.segment_blocks.proofs.space.Space.with_cell.Goals as goal

pub returns : goal.returns
returns c = λ tiles at cell is. cell_more c.args.self tiles at cell is
