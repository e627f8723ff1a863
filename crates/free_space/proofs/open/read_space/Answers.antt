use Rattle.std.proofs.Common.{rules}
use Rattle.segment_blocks.specs.TilesOf.{tiles_of}
use Rattle.free_space.proofs.open.read_space.Goals as goal

pub returns-in-Ok-clause-space : goal.returns-in-Ok-clause-space
returns-in-Ok-clause-space g c = λ pages told.
    record {
      page = c.fetch_page.new.into;
      tiles = tiles_of c.args.shapes.now c.fetch_page.new.into;
      among = search rules;
      is = c.in-Ok.ensures.tiled;
      numbers = c.in-Ok.ensures.space;
    }
