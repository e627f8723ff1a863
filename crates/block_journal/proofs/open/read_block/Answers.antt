use Rattle.std.proofs.Common.{◌≡◌, length, rules}
use Rattle.block_journal.proofs.Reading.{block_from}
use Rattle.block_journal.proofs.open.read_block.Goals as goal

pub returns-clause-block : goal.returns-clause-block
returns-clause-block g c =
    let long : length c.read_at.new.buf ≡ 4096 = search rules in
    block_from c.args.at c.in_ok-read_at.field-0 c.read_at.new.buf (g.T.Site.image c.args.site.now) c.in_ok-read_at.ensures.bytes long c.in_ok-read_at.ensures.within
