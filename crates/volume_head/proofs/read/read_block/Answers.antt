use Rattle.std.proofs.Common.{◌≡◌, length, rules}
use Rattle.volume_head.proofs.Fronts.{read_is, block_is}
use Rattle.volume_head.proofs.read.read_block.Goals as goal

pub returns-clause-told : goal.returns-clause-told
returns-clause-told g c = λ y told.
    let long : length c.read_at.new.buf ≡ 4096 = search rules in
    block_is c.args.at c.in_ok-read.read c.read_at.new.buf y (read_is c.args.at c.in_ok-read.read c.read_at.new.buf (g.T.Site.image c.args.site.now) y told c.in_ok-read.ensures.bytes long) long c.in_ok-read.ensures.within
