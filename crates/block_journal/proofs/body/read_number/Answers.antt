use Rattle.std.proofs.Common.{◌≡◌, length, rules}
use Rattle.block_journal.proofs.BodyReads.{number_read}
use Rattle.block_journal.proofs.body.read_number.Goals as goal

pub returns-then-branch-clause-number : goal.returns-then-branch-clause-number
returns-then-branch-clause-number g c =
    let four : length c.read_whole.new.bytes ≡ 4 = search rules in
    number_read c.args.at c.from_be_bytes.result c.read_whole.new.bytes (g.T.Site.image c.args.site.now) c.in_ok-read_whole.field-0 c.from_be_bytes.ensures four c.if-branch.true c.in_ok-read_whole.ensures.whole
