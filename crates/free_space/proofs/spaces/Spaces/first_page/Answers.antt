use Rattle.std.proofs.Common.{◌≡◌, ◌-◌, ◌*◌, ◌/◌, ◌^◌, ◌<◌, ◌≤◌, ℕ, get_or, sym, subst, ◌∙◌, arith}
use Rattle.free_space.specs.Placing.{IsFirstWith}
use Rattle.std.proofs.lemmas.Nat.{pow_pos}
use Rattle.std.proofs.lemmas.List.{get_or_default}
use Rattle.free_space.proofs.Maxima.{left_step, right_step, first_is, none_first}
use Rattle.free_space.proofs.spaces.Spaces.first_page.Goals as goal

pub returns-then-index-len-clause-none : goal.returns-then-index-len-clause-none
returns-then-index-len-clause-none c =
    let self = c.args.self.now in
    let read = c.index.ensures ∙ get_or_default self.nodes.items 1 c.index.result.now 0 (omega (arith, self.tree.long, pow_pos self.height)) in
    let small : get_or self.nodes.items 1 0 < c.args.len = omega (arith, read, c.if-index-len.true) in
    none_first self.height self.nodes.items self.pages.items c.args.len self.tree small

pub loop-node-preserved-then-index-len-2 : goal.loop-node-preserved-then-index-len-2
loop-node-preserved-then-index-len-2 c =
    let self = c.args.self.now in
    let half : c.len-half.result / 2 ≡ 2 ^ self.height = omega (arith, self.tree.long, c.len-half.ensures) in
    let read = c.index-in-loop-node.ensures ∙ get_or_default self.nodes.items (c.loop-node.node * 2) c.index-in-loop-node.result.now 0 (omega (arith, self.tree.long, half, c.loop-node-test.true)) in
    let small : get_or self.nodes.items (c.loop-node.node * 2) 0 < c.args.len = omega (arith, read, c.if-index-len-2.true) in
    right_step self.height (c.len-half.result / 2) self.nodes.items c.args.len c.loop-node.node half self.tree.maxima c.loop-node.invariant c.loop-node-test.true small

pub loop-node-preserved : goal.loop-node-preserved
loop-node-preserved c =
    let self = c.args.self.now in
    let half : c.len-half.result / 2 ≡ 2 ^ self.height = omega (arith, self.tree.long, c.len-half.ensures) in
    let read = c.index-in-loop-node.ensures ∙ get_or_default self.nodes.items (c.loop-node.node * 2) c.index-in-loop-node.result.now 0 (omega (arith, self.tree.long, half, c.loop-node-test.true)) in
    let enough : c.args.len ≤ get_or self.nodes.items (c.loop-node.node * 2) 0 = omega (arith, read, c.if-index-len-2.false) in
    left_step self.height (c.len-half.result / 2) self.nodes.items c.args.len c.loop-node.node half c.loop-node.invariant c.loop-node-test.true enough

pub returns-clause-found : goal.returns-clause-found
returns-clause-found c =
    let self = c.args.self.now in
    let half : c.len-half.result / 2 ≡ 2 ^ self.height = omega (arith, self.tree.long, c.len-half.ensures) in
    subst (λ (h : ℕ). IsFirstWith self.pages.items c.args.len (c.loop-node.node - h)) (sym half)
    (first_is self.height self.nodes.items self.pages.items c.args.len c.loop-node.node self.tree c.requires c.loop-node.invariant (omega (arith, c.loop-node-test.false, half)))
