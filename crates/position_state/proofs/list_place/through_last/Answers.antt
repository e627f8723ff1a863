use Rattle.std.proofs.Common.{◌∙◌, sym, arith}
use Rattle.hal_schema.specs.Insertion.{stands_before}
use Rattle.position_state.proofs.Changing.{through_here, through_before}
use Rattle.position_state.proofs.list_place.through_last.Goals as goal

pub returns-then-stands_before-clause-through : goal.returns-then-stands_before-clause-through
returns-then-stands_before-clause-through c =
    through_here (stands_before c.args.schema.now c.args.new.now) c.args.rows.now c.rows.after c.index-rows-after.result c.rows-test.true c.rows.invariant.0 c.index-rows-after.is
    (sym c.stands_before.ensures ∙ c.if-stands_before.true) c.rows.invariant.1

pub rows-preserved : goal.rows-preserved
rows-preserved c = (
  omega arith,
  through_before (stands_before c.args.schema.now c.args.new.now) c.args.rows.now c.rows.after c.index-rows-after.result c.rows-test.true c.rows.invariant.0 c.index-rows-after.is
      (sym c.stands_before.ensures ∙ c.if-stands_before.false) c.rows.invariant.1,
)
