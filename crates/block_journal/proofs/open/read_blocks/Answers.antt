use Rattle.std.proofs.Common.{◌≡◌, ◌∙◌, ◌++◌, ◌∷◌, [], ℕ, List, length, sym, ap, subst, arith, rules, length-append}
use Rattle.std.specs.Prelude.{All}
use Rattle.block_journal.specs.Opening.{ReadsBlock}
use Rattle.block_journal.proofs.Reading.{blocks_begin, blocks_more, whole_more}
use Rattle.block_journal.proofs.Calls.{looks_none, looks_then}
use Rattle.block_journal.proofs.open.read_blocks.Goals as goal

pub loop-number-init : goal.loop-number-init
loop-number-init g c = record {
  blocks = λ y told long. c.new-blocks.ensures.items ∙ blocks_begin c.args.first y;
  many = ap length c.new-blocks.ensures.items;
  whole = λ k d lt. absurd (omega (arith, lt, ap length c.new-blocks.ensures.items));
  leaves = looks_none c.args.site.now;
}

pub loop-number-preserved : goal.loop-number-preserved
loop-number-preserved g c =
    let block = c.read_block.new.block in
    let old = c.loop-number.blocks.items in
    let long : length c.read_block.new.block ≡ 4096 = search (rules, c.read_block.array_long) in
    let pushed : c.push.new.self.items ≡ old ++ block ∷ [] = c.in_ok-push.ensures.items in
    let read = c.in_ok-read_block.ensures.block in
    record {
      blocks = λ y told far. pushed ∙ blocks_more c.args.first c.loop-number.number c.args.count (g.T.Site.image c.args.site.now) (g.T.Site.image c.loop-number.site) old block c.loop-number.invariant.leaves.same c.loop-number-test.true c.loop-number.invariant.blocks (subst (λ (at : ℕ). ReadsBlock at (g.T.Site.image c.loop-number.site) block) c.place_of.ensures read) y told far;
      many = omega (arith, ap length pushed, length-append old (block ∷ []), c.loop-number.invariant.many);
      whole = subst (λ (l : List (List ℕ)). All (λ block. length block ≡ 4096) l) (sym pushed) (whole_more old block c.loop-number.invariant.whole long);
      leaves = looks_then c.loop-number.invariant.leaves c.read_block.ensures.leaves;
    }
