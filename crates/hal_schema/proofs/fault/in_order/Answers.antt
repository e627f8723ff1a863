use Rattle.std.proofs.Common.{◌-◌, arith}
use Rattle.std.proofs.lemmas.List.{get_or_default}
use Rattle.hal_schema.proofs.Ordered.{places_step}
use Rattle.hal_schema.proofs.fault.in_order.Goals as goal

pub loop-left-preserved : goal.loop-left-preserved
loop-left-preserved c = (
  omega arith,
  places_step c.args.places.now c.loop-left.left _ c.loop-left.list c.as_slice.result.now c.insert.new.self c.places_before.result
      c.loop-left-test.true c.loop-left.invariant.0 (get_or_default c.args.places.now (c.loop-left.left - 1) _ _ (omega arith)) c.loop-left.invariant.1 c.as_slice.ensures c.places_before.ensures.place c.in_ok-insert.ensures.ok,
)
