use Rattle.std.proofs.Common.{◌∙◌, sym}
use Rattle.dli_calls.specs.Refusals.{is_below_type}
use Rattle.call_gets.proofs.Listing.{left_is, falls_on, falls_not}
use Rattle.call_gets.proofs.refusals.is_falling.Goals as goal

pub returns-then-not-is_under : goal.returns-then-not-is_under
returns-then-not-is_under c =
    falls_not (is_below_type c.args.schema.now) c.args.schema.now c.args.ssas.now c.loop-ssa.above c.loop-ssa.ssa-index c.ssa-item.result _ c.loop-ssa.invariant
    (left_is c.args.ssas.now c.loop-ssa.ssa-index c.ssa-item.result c.loop-ssa-test.true c.ssa-item.is) c.code_named-code.ensures (sym c.is_under.ensures ∙ c.if-not-is_under.true)

pub loop-ssa-preserved : goal.loop-ssa-preserved
loop-ssa-preserved c =
    falls_on (is_below_type c.args.schema.now) c.args.schema.now c.args.ssas.now c.loop-ssa.above c.loop-ssa.ssa-index c.ssa-item.result _ _ c.loop-ssa.invariant
    (left_is c.args.ssas.now c.loop-ssa.ssa-index c.ssa-item.result c.loop-ssa-test.true c.ssa-item.is) c.code_named-code.ensures (sym c.is_under.ensures ∙ c.if-not-is_under.false) c.later_of-above.ensures
