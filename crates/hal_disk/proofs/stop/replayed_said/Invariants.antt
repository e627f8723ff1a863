use Rattle.std.proofs.Common.{◌≡◌, take, reverse}
use Rattle.hal_disk.specs.Record.{said_by}
use Rattle.hal_disk.proofs.stop.replayed_said.Given as goal

abbrev pub invariant-loop-call : goal.invariant-loop-call
invariant-loop-call l = l.all ≡ said_by (reverse (take l.call-index l.calls))
