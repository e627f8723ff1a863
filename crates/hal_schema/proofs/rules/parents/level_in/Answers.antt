use Rattle.std.proofs.Common.{sym, ◌∙◌, arith}
use Rattle.hal_schema.specs.Raw.{types_of}
use Rattle.hal_schema.proofs.Ancestry.{types_lower, level-child, level-root, level-short}
use Rattle.hal_schema.proofs.rules.parents.level_in.Goals as goal

pub overflow_add-level : goal.overflow_add-level
overflow_add-level c =
    let types = types_of c.args.types.now in
    let low = types_lower types c.requires.parents in
    let a = low.above c.loop-parent.at c.in-Some.parent (sym c.in-Some.ensures) in
    let e = level-child types c.requires.parents c.loop-parent.at c.in-Some.parent c.loop-parent.invariant.0 (sym c.in-Some.ensures) in
    let s = level-short types c.args.code in
    omega (arith, e, s, c.loop-parent.invariant.2)

pub loop-parent-smaller : goal.loop-parent-smaller
loop-parent-smaller c = (types_lower (types_of c.args.types.now) c.requires.parents).below c.loop-parent.at c.in-Some.parent (sym c.in-Some.ensures)

pub loop-parent-preserved : goal.loop-parent-preserved
loop-parent-preserved c =
    let types = types_of c.args.types.now in
    let low = types_lower types c.requires.parents in
    let a = low.above c.loop-parent.at c.in-Some.parent (sym c.in-Some.ensures) in
    let b = low.below c.loop-parent.at c.in-Some.parent (sym c.in-Some.ensures) in
    let e = level-child types c.requires.parents c.loop-parent.at c.in-Some.parent c.loop-parent.invariant.0 (sym c.in-Some.ensures) in
    (a, omega arith, omega (arith, e, c.loop-parent.invariant.2))

pub returns : goal.returns
returns c =
    let types = types_of c.args.types.now in
    let root = sym c.parent_code.ensures ∙ c.in_default.is in
    let one = level-root types c.loop-parent.at c.loop-parent.invariant.0 root in
    omega (arith, one, c.loop-parent.invariant.2)
