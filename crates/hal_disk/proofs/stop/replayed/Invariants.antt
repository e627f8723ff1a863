use Rattle.std.proofs.Common.{◌≡◌, take, reverse}
use Rattle.hal_disk.specs.Record.{seen_by, stopped_by}
use Rattle.hal_disk.proofs.stop.replayed.Given as goal

abbrev pub invariant-loop-call : goal.invariant-loop-call
invariant-loop-call l = record {
  seen : l.seen.items ≡ seen_by l.fn.first (reverse (take l.call-index l.calls));
  left : l.left.items ≡ stopped_by l.fn.first l.kept l.torn (reverse (take l.call-index l.calls));
}
