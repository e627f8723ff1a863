use Rattle.std.proofs.Common.{sym, ◌∙◌, arith}
use Rattle.std.proofs.lemmas.Bool.{ne_eqb}
use Rattle.hal_schema.proofs.Ancestry.{types_lower, above_like}
use Rattle.hal_schema.proofs.rules.indexes.is_at_or_below.Goals as goal

pub loop-at-smaller : goal.loop-at-smaller
loop-at-smaller c = (types_lower c.args.types.now c.requires.parents).below c.loop-at.at c.in-Some.parent (sym c.in-Some.ensures)

pub loop-at-preserved : goal.loop-at-preserved
loop-at-preserved c =
    let low = types_lower c.args.types.now c.requires.parents in
    let a = low.above c.loop-at.at c.in-Some.parent (sym c.in-Some.ensures) in
    let b = low.below c.loop-at.at c.in-Some.parent (sym c.in-Some.ensures) in
    (a, omega arith, above_like c.args.types.now c.requires.parents c.loop-at.at c.in-Some.parent c.args.target c.loop-at.invariant.0 (sym c.in-Some.ensures) (ne_eqb _ _ c.loop-at-test.true) ∙ c.loop-at.invariant.2)
