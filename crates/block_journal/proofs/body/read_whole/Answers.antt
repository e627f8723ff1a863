use Rattle.block_journal.proofs.BodyReads.{whole_read}
use Rattle.std.proofs.Common.{◌≡◌, length, refl, arith, rules}
use Rattle.block_journal.proofs.body.read_whole.Goals as goal

pub returns-clause-whole : goal.returns-clause-whole
returns-clause-whole g c =
    let long : length c.read_at.new.buf ≡ length c.args.bytes.now = search rules in
    whole_read c.args.at c.in_ok-read.read c.read_at.new.buf (g.T.Site.image c.args.site.now) _ c.in_ok-read.ensures.bytes (omega (arith, long, c.requires.some)) c.in_ok-read.ensures.within refl
