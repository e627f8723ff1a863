use Rattle.std.proofs.Common.{◌∙◌, sym}
use Rattle.hal_schema.specs.SegType.{is_parent_code}
use Rattle.call_gets.proofs.Listing.{left_is, falls_on, falls_not}
use Rattle.call_gets.proofs.refusals.leaves_out_none.Goals as goal

pub returns-then-not-is_next_to : goal.returns-then-not-is_next_to
returns-then-not-is_next_to c =
    falls_not (is_parent_code c.args.schema.now.types) c.args.schema.now c.args.ssas.now c.loop-ssa.above c.loop-ssa.ssa-index c.ssa-item.result _ c.loop-ssa.invariant
    (left_is c.args.ssas.now c.loop-ssa.ssa-index c.ssa-item.result c.loop-ssa-test.true c.ssa-item.is) c.code_named-code.ensures (sym c.is_next_to.ensures ∙ c.if-not-is_next_to.true)

pub loop-ssa-preserved : goal.loop-ssa-preserved
loop-ssa-preserved c =
    falls_on (is_parent_code c.args.schema.now.types) c.args.schema.now c.args.ssas.now c.loop-ssa.above c.loop-ssa.ssa-index c.ssa-item.result _ _ c.loop-ssa.invariant
    (left_is c.args.ssas.now c.loop-ssa.ssa-index c.ssa-item.result c.loop-ssa-test.true c.ssa-item.is) c.code_named-code.ensures (sym c.is_next_to.ensures ∙ c.if-not-is_next_to.false) c.later_of-above.ensures
