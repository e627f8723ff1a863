use Rattle.std.proofs.Common.{◌≡◌, ◌/◌, ◌^◌, ℕ, List, [], ◌∷◌, ◌++◌, length, sym, ap, subst, ◌∙◌, arith, rules}
use Rattle.free_space.specs.Maxima.{leaf_at, IsTreeOf}
use Rattle.free_space.proofs.Maxima.{written, tree_push}
use Rattle.free_space.proofs.spaces.Spaces.add.Goals as goal

pub invariant_of-self : goal.invariant_of-self
invariant_of-self c =
    let old = c.args.self.now in
    let long : length c.put_leaf.new.nodes ≡ length c.deref_mut.result.now = omega arith in
    let same = written old.nodes.len c.deref_mut.result.now c.put_leaf.new.nodes old.nodes.items c.deref_mut.ensures.value c.deref_mut.ensures.len long in
    let half : c.len-half.result / 2 ≡ 2 ^ old.height = omega (arith, old.tree.long, c.len-half.ensures, c.deref_mut.ensures.len, ap length c.deref_mut.ensures.value) in
    let last : c.len.result ≡ length old.pages.items = search rules in
    let pushed : c.push.new.self.items ≡ old.pages.items ++ c.args.space ∷ [] = search rules in
    record {
      tree = subst (λ (l : List ℕ). IsTreeOf old.height l c.push.new.self.items) (sym same)
          (tree_push old.height (c.len-half.result / 2) c.len.result old.pages.items c.push.new.self.items c.args.space old.nodes.items c.put_leaf.new.nodes old.tree half last
          (omega (arith, c.requires.leaf, last)) pushed (long ∙ ap length c.deref_mut.ensures.value) c.put_leaf.ensures.maxima c.put_leaf.ensures.here
          (λ k within apart. c.put_leaf.ensures.others k within apart ∙ ap (λ (l : List ℕ). leaf_at (c.len-half.result / 2) l k) c.deref_mut.ensures.value));
    }
