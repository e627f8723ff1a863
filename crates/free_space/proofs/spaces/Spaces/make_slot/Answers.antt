use Rattle.std.proofs.Common.{◌≡◌, ◌/◌, ◌^◌, length, ap, arith}
use Rattle.free_space.proofs.Maxima.{below_power, doubled_all, tree_doubled}
use Rattle.free_space.proofs.spaces.Spaces.make_slot.Goals as goal

pub overflow_add-self : goal.overflow_add-self
overflow_add-self c =
    let old = c.args.self.now in
    omega (arith, old.tree.long, c.len-half.ensures, c.deref.ensures.len, ap length c.deref.ensures.value, below_power old.height, c.if-len-half.true, c.len.ensures, ap length c.reserve.ensures.items, c.requires)

pub invariant_of-self-then-len-half : goal.invariant_of-self-then-len-half
invariant_of-self-then-len-half c =
    let old = c.args.self.now in
    let half : c.len-half.result / 2 ≡ 2 ^ old.height = omega (arith, old.tree.long, c.len-half.ensures, c.deref.ensures.len, ap length c.deref.ensures.value) in
    let e = c.in_ok-self.ensures in
    record {
      tree = tree_doubled old.height old.pages.items c.reserve.new.self.items old.nodes.items c.in_ok-self.field-0.items old.tree c.reserve.ensures.items
          (doubled_all (c.len-half.result / 2) (2 ^ old.height) old.nodes.items c.deref.result.now c.in_ok-self.field-0.items half c.deref.ensures.value e.long e.maxima e.same e.empty);
    }
