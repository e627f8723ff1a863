use Rattle.std.proofs.Common.{◌∙◌, ap, sym, length, true, false, arith}
use Rattle.memory_shelf.proofs.Shelving.{places_step, none_left}
use Rattle.memory_shelf.proofs.shelf.count_of.Goals as goal
use Rattle.memory_shelf.proofs.shelf.count_of.Goals.{then-is_owner, else-is_owner}

pub loop-owner-preserved : goal.loop-owner-preserved
loop-owner-preserved c = elim c.if-is_owner.branch [
  | then-is_owner w ↦ record {
    within = omega (arith, w.count-is, c.loop-owner.invariant.within);
    count = omega (arith, w.count-is, c.loop-owner.invariant.count, ap length (places_step c.args.set (record { part = 0; number = 0; letter = 0 }) c.loop-owner.owner-index c.args.owners.now true c.loop-owner-test.true (sym c.is_owner.ensures ∙ w.if-is_owner.true)));
  }
  | else-is_owner w ↦ record {
    within = omega (arith, w.count-is, c.loop-owner.invariant.within);
    count = omega (arith, w.count-is, c.loop-owner.invariant.count, ap length (places_step c.args.set (record { part = 0; number = 0; letter = 0 }) c.loop-owner.owner-index c.args.owners.now false c.loop-owner-test.true (sym c.is_owner.ensures ∙ w.if-is_owner.false)));
  }
]

pub returns : goal.returns
returns c = omega (arith, c.loop-owner.invariant.count, ap length (none_left c.args.set c.loop-owner.owner-index c.args.owners.now c.loop-owner-test.false))
