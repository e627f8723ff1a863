use Rattle.std.proofs.Common.{◌≡◌, ◌/◌, ◌^◌, ℕ, List, length, refl, sym, ap, subst, ◌∙◌, arith}
use Rattle.std.specs.Prelude.{slice_set}
use Rattle.free_space.specs.Maxima.{leaf_at, IsTreeOf}
use Rattle.free_space.proofs.Maxima.{written, tree_set}
use Rattle.free_space.proofs.spaces.Spaces.set.Goals as goal

pub invariant_of-self : goal.invariant_of-self
invariant_of-self c =
    let old = c.args.self.now in
    let now = slice_set old.pages.items c.args.page c.args.space in
    let long : length c.put_leaf.new.nodes ≡ length c.deref_mut.result.now = omega arith in
    let same = written old.nodes.len c.deref_mut.result.now c.put_leaf.new.nodes old.nodes.items c.deref_mut.ensures.value c.deref_mut.ensures.len long in
    let half : c.len-half.result / 2 ≡ 2 ^ old.height = omega (arith, old.tree.long, c.len-half.ensures, c.deref_mut.ensures.len, ap length c.deref_mut.ensures.value) in
    record {
      tree = subst (λ (l : List ℕ). IsTreeOf old.height l now) (sym same)
          (tree_set old.height (c.len-half.result / 2) c.args.page old.pages.items now c.args.space old.nodes.items c.put_leaf.new.nodes old.tree half c.requires refl
          (long ∙ ap length c.deref_mut.ensures.value) c.put_leaf.ensures.maxima c.put_leaf.ensures.here
          (λ k within apart. c.put_leaf.ensures.others k within apart ∙ ap (λ (l : List ℕ). leaf_at (c.len-half.result / 2) l k) c.deref_mut.ensures.value));
    }
