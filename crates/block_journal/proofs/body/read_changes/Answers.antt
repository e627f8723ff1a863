use Rattle.std.proofs.Common.{◌≡◌, length, arith}
use Rattle.block_journal.proofs.BodyReads.{some_begin, some_more, some_all, change_wrong}
use Rattle.block_journal.proofs.Calls.{looks_none, looks_then}
use Rattle.block_journal.proofs.body.read_changes.Goals as goal

pub loop-k-init : goal.loop-k-init
loop-k-init g c = record {
  some = some_begin c.args.at c.args.count (g.T.Site.image c.args.site.now) c.new-changes.result.entries c.new-changes.ensures.empty c.requires.within;
  leaves = looks_none c.args.site.now;
}

pub loop-k-preserved : goal.loop-k-preserved
loop-k-preserved g c =
    let whole : length c.in-Some.change.1 ≡ 4096 = rw c.in-Some.is at c.in_ok-change.ensures.whole in
    record {
      some = some_more c.args.at c.loop-k.k c.args.count c.loop-k.least _ (g.T.Site.image c.args.site.now) (g.T.Site.image c.loop-k.site) c.loop-k.changes.entries c.insert.new.self.entries c.in_ok-change.field-0 c.in-Some.change c.loop-k.invariant.some c.loop-k.invariant.leaves.same (omega (arith, c.from.ensures)) c.in-Some.is c.in_ok-change.ensures.change whole (omega (arith, c.if-number-least.false)) (omega (arith, c.if-count-number.false)) c.in_ok-insert.ensures.entries;
      leaves = looks_then c.loop-k.invariant.leaves c.read_change.ensures.leaves;
    }

pub returns-then-number-least-clause-damaged : goal.returns-then-number-least-clause-damaged
returns-then-number-least-clause-damaged g c = λ fault. change_wrong c.args.at c.loop-k.k c.args.n c.args.count c.loop-k.least _ (g.T.Site.image c.args.site.now) (g.T.Site.image c.loop-k.site) c.loop-k.changes.entries c.in_ok-change.field-0 c.in-Some.change c.loop-k.invariant.some c.loop-k.invariant.leaves.same (omega (arith, c.from.ensures)) c.in-Some.is c.in_ok-change.ensures.change c.loop-k-test.true (λ low high. omega (arith, c.then-number-least.either))

pub returns-clause-changes : goal.returns-clause-changes
returns-clause-changes g c = some_all c.args.at c.loop-k.k c.args.n c.args.count c.loop-k.least (g.T.Site.image c.args.site.now) c.loop-k.changes.entries c.loop-k.invariant.some (omega (arith, c.loop-k-test.false, c.loop-k.auto.k-end))
