use Rattle.std.proofs.Common.{◌∙◌, ap, sym, reverse, take}
use Rattle.hal_disk.specs.Record.{said_by}
use Rattle.hal_disk.proofs.RecordLemmas.{nothing_said, until_next}
use Rattle.hal_disk.proofs.stop.replayed_said.Goals as goal

pub loop-call-init : goal.loop-call-init
loop-call-init c = nothing_said c.new-all.result c.args.calls.now c.new-all.ensures

pub loop-call-preserved : goal.loop-call-preserved
loop-call-preserved c = c.in_ok-resay.ensures (reverse (take c.loop-call.call-index c.args.calls.now)) c.loop-call.invariant ∙ ap said_by (sym (until_next c.args.calls.now c.loop-call.call-index c.call-item.result c.loop-call-test.true c.call-item.is))
