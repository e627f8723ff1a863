use Rattle.block_journal.specs.Device.{Looks}
use Rattle.block_journal.proofs.BodyReads.{ReadsSome}
use Rattle.block_journal.proofs.body.read_changes.Given as goal

abbrev pub invariant-loop-k : goal.invariant-loop-k
invariant-loop-k g l = record {
  some : ReadsSome l.at l.k l.count l.least (g.T.Site.image l.fn.site) l.changes.entries;
  leaves : Looks g.T.Site.image g.T.Site.said g.T.Site.moment g.T.Site.left_at g.T.Site.disk_faults g.T.Site.say_faults g.T.Site.room l.fn.site l.site;
}
