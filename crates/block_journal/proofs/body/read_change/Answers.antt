use Rattle.std.proofs.Common.{◌≡◌, length, rules}
use Rattle.block_journal.proofs.BodyReads.{change_read}
use Rattle.block_journal.proofs.body.read_change.Goals as goal

pub returns-then-branch-clause-change : goal.returns-then-branch-clause-change
returns-then-branch-clause-change g c =
    let long : length c.read_whole.new.bytes ≡ 4096 = search rules in
    change_read c.args.at c.in-Some.number c.read_whole.new.bytes (g.T.Site.image c.args.site.now) (g.T.Site.image c.read_number.new.site) c.in_ok-number.field-0 c.in_ok-read_whole.field-0 c.in-Some.is c.in_ok-number.ensures.number c.read_number.ensures.leaves.same long c.if-branch.true c.in_ok-read_whole.ensures.whole
