use Rattle.std.proofs.Common.{◌≡◌, ◌+◌, ◌*◌, ◌<◌, ℕ, List, length, get_or, refl, sym, ap, subst, ◌∙◌, arith}
use Rattle.free_space.specs.Maxima.{leaf_at}
use Rattle.free_space.proofs.Maxima.{Doubled, written, doubled_on}
use Rattle.free_space.proofs.spaces.doubled.Goals as goal

pub loop-n-preserved : goal.loop-n-preserved
loop-n-preserved c =
    let nodes = c.loop-n.new.items in
    let twice : ℕ = 2 * c.args.half in
    let long : length c.put_leaf.new.nodes ≡ length c.deref_mut.result.now = omega arith in
    let same = written c.loop-n.new.len c.deref_mut.result.now c.put_leaf.new.nodes nodes c.deref_mut.ensures.value c.deref_mut.ensures.len long in
    let double : twice ≡ c.args.half + c.args.half = omega arith in
    let below : c.loop-n.n < c.args.half = omega (arith, c.loop-n-test.true) in
    subst (Doubled c.args.half (c.loop-n.n + 1) c.args.nodes.now) (sym same)
    (doubled_on c.args.half twice c.loop-n.n (get_or c.args.nodes.now (c.args.half + c.loop-n.n) 0) c.args.nodes.now nodes c.put_leaf.new.nodes double below refl c.loop-n.invariant
    (long ∙ ap length c.deref_mut.ensures.value) c.put_leaf.ensures.maxima c.put_leaf.ensures.here
    (λ k within apart. c.put_leaf.ensures.others k within apart ∙ ap (λ (l : List ℕ). leaf_at twice l k) c.deref_mut.ensures.value))
