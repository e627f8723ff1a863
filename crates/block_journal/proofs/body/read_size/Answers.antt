use Rattle.std.proofs.Common.{arith}
use Rattle.block_journal.proofs.BodyReads.{size_wrong, size_read}
use Rattle.block_journal.proofs.body.read_size.Goals as goal

pub returns-then-one-ne1-clause-damaged : goal.returns-then-one-ne1-clause-damaged
returns-then-one-ne1-clause-damaged g c = λ fault. size_wrong c.args.first c.args.count c.place_of-at.result c.in-Some.n c.in-Some-2.one (g.T.Site.image c.args.site.now) (g.T.Site.image c.read_number.new.site) c.in_ok-n.field-0 c.in_ok-one.field-0 c.place_of-at.ensures c.in-Some.is c.in_ok-n.ensures.number c.read_number.ensures.leaves.same c.in-Some-2.is c.in_ok-one.ensures.number (λ one some few. omega (arith, c.then-one-ne1.either))

pub returns-clause-size : goal.returns-clause-size
returns-clause-size g c = size_read c.args.first c.args.count c.place_of-at.result c.in-Some.n c.in-Some-2.one (g.T.Site.image c.args.site.now) (g.T.Site.image c.read_number.new.site) c.in_ok-n.field-0 c.in_ok-one.field-0 c.place_of-at.ensures c.in-Some.is c.in_ok-n.ensures.number c.read_number.ensures.leaves.same c.in-Some-2.is c.in_ok-one.ensures.number (omega arith) (omega arith) (omega arith)
