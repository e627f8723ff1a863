use Rattle.std.proofs.Common.{arith}
use Rattle.block_journal.proofs.BodyReads.{body_read}
use Rattle.block_journal.proofs.Calls.{if_ok}
use Rattle.block_journal.proofs.body.read_body.Goals as goal

pub returns-clause-body : goal.returns-clause-body
returns-clause-body g c = if_ok c.read_changes.result c.read_changes.ensures.changes (λ changes read. body_read c.args.first c.args.count c.in_ok-n.n _ (g.T.Site.image c.args.site.now) (g.T.Site.image c.read_size.new.site) changes.entries c.in_ok-n.ensures.size c.read_size.ensures.leaves.same (omega (arith, c.place_of.ensures)) read)
