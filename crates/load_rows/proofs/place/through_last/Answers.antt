use Rattle.std.proofs.Common.{◌∙◌, sym, arith}
use Rattle.hal_loader.specs.Placing.{loads_behind}
use Rattle.load_rows.proofs.Steps.{through_here, through_before}
use Rattle.load_rows.proofs.place.through_last.Goals as goal

pub returns-then-loads_behind-clause-through : goal.returns-then-loads_behind-clause-through
returns-then-loads_behind-clause-through c =
    through_here (loads_behind c.args.schema.now c.args.new.now) c.args.rows.now c.rows.after c.index-rows-after.result c.rows-test.true c.rows.invariant.0 c.index-rows-after.is
    (sym c.loads_behind.ensures ∙ c.if-loads_behind.true) c.rows.invariant.1

pub rows-preserved : goal.rows-preserved
rows-preserved c = (
  omega arith,
  through_before (loads_behind c.args.schema.now c.args.new.now) c.args.rows.now c.rows.after c.index-rows-after.result c.rows-test.true c.rows.invariant.0 c.index-rows-after.is
      (sym c.loads_behind.ensures ∙ c.if-loads_behind.false) c.rows.invariant.1,
)
