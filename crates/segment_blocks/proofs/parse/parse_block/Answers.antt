use Rattle.segment_blocks.proofs.OneTiling.{is_given}
use Rattle.segment_blocks.proofs.parse.parse_block.Goals as goal

pub returns-clause-tiled : goal.returns-clause-tiled
returns-clause-tiled c = is_given c.args.shapes.now c.args.block.now c.all_tiles.result c.all_tiles.ensures.found c.all_tiles.ensures.bad
