use Rattle.std.proofs.Common.{arith}
use Rattle.hal_schema.proofs.Ordered.{parts_step}
use Rattle.hal_schema.specs.Lawful.{part_is_stored}
use Rattle.hal_schema.proofs.KeptPlain.{all-insert}
use Rattle.hal_schema.proofs.build.build_parts.Goals as goal

pub loop-left-preserved : goal.loop-left-preserved
loop-left-preserved c = (
  omega arith,
  parts_step c.args.dbd.now c.args.parts.now c.loop-left.left c.index-parts-left.result c.loop-left.list c.as_slice.result.now c.insert.new.self c.in_ok-part.part c.as_slice-in-loop-left.result.now c.highs_below.result
      c.loop-left-test.true c.loop-left.invariant.0 c.index-parts-left.is c.loop-left.invariant.1 c.in_ok-part.ensures.same c.as_slice.ensures c.as_slice-in-loop-left.ensures c.highs_below.ensures.place c.in_ok-insert.ensures.ok,
  rw c.in_ok-insert.ensures.ok (all-insert part_is_stored c.loop-left.list c.highs_below.result c.in_ok-part.part c.in_ok-part.ensures.stored c.loop-left.invariant.2),
)
