use Rattle.std.proofs.Common.{◌∙◌, sym}
use Rattle.dli_calls.specs.Refusals.{is_in_subtree}
use Rattle.call_gets.proofs.Listing.{left_is, all_codes}
use Rattle.call_gets.proofs.refusals.are_in_subtree.Goals as goal

pub returns-then-not-is_within : goal.returns-then-not-is_within
returns-then-not-is_within c =
    sym (c.loop-ssa.invariant
    ∙ all_codes (is_in_subtree c.args.schema.now c.args.target) c.args.schema.now c.args.ssas.now c.loop-ssa.ssa-index c.ssa-item.result _ _
    (left_is c.args.ssas.now c.loop-ssa.ssa-index c.ssa-item.result c.loop-ssa-test.true c.ssa-item.is) c.code_named-code.ensures (sym c.is_within.ensures ∙ c.if-not-is_within.true))

pub loop-ssa-preserved : goal.loop-ssa-preserved
loop-ssa-preserved c =
    c.loop-ssa.invariant
    ∙ all_codes (is_in_subtree c.args.schema.now c.args.target) c.args.schema.now c.args.ssas.now c.loop-ssa.ssa-index c.ssa-item.result _ _
    (left_is c.args.ssas.now c.loop-ssa.ssa-index c.ssa-item.result c.loop-ssa-test.true c.ssa-item.is) c.code_named-code.ensures (sym c.is_within.ensures ∙ c.if-not-is_within.false)
