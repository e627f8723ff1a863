use Rattle.std.proofs.Common.{sym, arith}
use Rattle.hal_schema.proofs.Ancestry.{types_lower, path-above, above-child}
use Rattle.hal_schema.proofs.rules.indexes.path_bytes.Goals as goal

pub loop-parent-smaller : goal.loop-parent-smaller
loop-parent-smaller c = (types_lower c.args.types.now c.requires.parents).below c.loop-parent.at c.in-Some.parent (sym c.in-Some.ensures)

pub loop-parent-init : goal.loop-parent-init
loop-parent-init c =
    let e = path-above c.args.types.now c.requires.parents c.args.code c.requires.above in
    (c.requires.above, c.requires.known, omega arith, omega (arith, e))

pub key_bytes-requires-in-Some-clause-above : goal.key_bytes-requires-in-Some-clause-above
key_bytes-requires-in-Some-clause-above c = (types_lower c.args.types.now c.requires.parents).above c.loop-parent.at c.in-Some.parent (sym c.in-Some.ensures)

pub key_bytes-requires-in-Some-clause-known : goal.key_bytes-requires-in-Some-clause-known
key_bytes-requires-in-Some-clause-known c =
    let b = (types_lower c.args.types.now c.requires.parents).below c.loop-parent.at c.in-Some.parent (sym c.in-Some.ensures) in
    let l = c.loop-parent.invariant.1 in
    omega (arith, b, l)

pub loop-parent-preserved : goal.loop-parent-preserved
loop-parent-preserved c =
    let low = types_lower c.args.types.now c.requires.parents in
    let a = low.above c.loop-parent.at c.in-Some.parent (sym c.in-Some.ensures) in
    let b = low.below c.loop-parent.at c.in-Some.parent (sym c.in-Some.ensures) in
    let above = above-child c.args.types.now c.loop-parent.at c.in-Some.parent (sym c.in-Some.ensures) in
    let e = path-above c.args.types.now c.requires.parents c.in-Some.parent a in
    (a, omega arith, omega arith, omega (arith, above, e, c.loop-parent.invariant.3))
