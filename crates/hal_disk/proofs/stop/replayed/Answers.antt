use Rattle.hal_disk.proofs.RecordLemmas.{nothing_seen, nothing_stopped}
use Rattle.hal_disk.proofs.stop.replayed.Goals as goal

pub loop-call-init : goal.loop-call-init
loop-call-init c = record {
  seen = nothing_seen c.args.first.now c.in_ok-seen.seen.items c.args.calls.now (c.in_ok-seen.ensures.items_if_clones_equal (λ x y is. is));
  left = nothing_stopped c.args.first.now c.in_ok-left.left.items c.args.kept c.args.torn c.args.calls.now (c.in_ok-left.ensures.items_if_clones_equal (λ x y is. is));
}
