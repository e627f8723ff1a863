use Rattle.std.proofs.Common.{◌≡◌, length, rules}
use Rattle.block_journal.proofs.Reading.{gate_byte, gate_none}
use Rattle.block_journal.proofs.open.read_gate.Goals as goal

pub returns-then-read-eq1-clause-gate : goal.returns-then-read-eq1-clause-gate
returns-then-read-eq1-clause-gate g c = λ image told.
    let one : length c.read_at.new.buf ≡ 1 = search rules in
    gate_byte c.in_ok-read.read c.read_at.new.buf (g.T.Site.image c.args.site.now) image told c.in_ok-read.ensures.bytes one c.if-read-eq1.true

pub returns-else-read-eq1-clause-gate : goal.returns-else-read-eq1-clause-gate
returns-else-read-eq1-clause-gate g c = λ image told.
    let one : length c.read_at.new.buf ≡ 1 = search rules in
    gate_none c.in_ok-read.read c.read_at.new.buf (g.T.Site.image c.args.site.now) image told c.in_ok-read.ensures.bytes one c.in_ok-read.ensures.within c.if-read-eq1.false
