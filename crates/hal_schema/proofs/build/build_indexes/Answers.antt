use Rattle.std.proofs.Common.{arith, ◌≡◌, Some, sym, ◌∙◌}
use Rattle.hal_schema.proofs.Ordered.{indexes_step}
use Rattle.hal_schema.specs.Raw.{index_of}
use Rattle.hal_schema.proofs.build.build_indexes.Goals as goal

pub loop-left-preserved-in-Continue-branch-3 : goal.loop-left-preserved-in-Continue-branch-3
loop-left-preserved-in-Continue-branch-3 c =
    let is : index_of c.args.types.now c.index-indexes-left.result ≡ Some c.in-Some.index = sym c.in_ok-index.ensures.index ∙ c.in-Some.is in (
      omega arith,
      indexes_step c.args.types.now c.args.indexes.now c.loop-left.left c.index-indexes-left.result c.loop-left.list c.as_slice.result.now c.insert.new.self c.in-Some.index c.targets_below.result
          c.loop-left-test.true c.loop-left.invariant.0 c.index-indexes-left.is c.loop-left.invariant.1 is c.as_slice.ensures c.targets_below.ensures.place c.in_ok-insert.ensures.ok,
    )
