use Rattle.segment_blocks.proofs.Spaces.{hole_more}
use Rattle.segment_blocks.proofs.space.Space.with_hole.Goals as goal

pub returns : goal.returns
returns c = λ tiles at is. hole_more c.args.self c.max.result c.saturating_add.result tiles at c.args.len c.max.ensures c.saturating_add.ensures is
